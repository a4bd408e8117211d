use Rattle.std.proofs.Common.{take, drop, sym, subst, take-append-drop}
use Rattle.std.specs.Prelude.{◌↔◌}
use Rattle.std.proofs.lemmas.List.{take_rest}
use Rattle.row_codec.specs.StepsBody.{HasBody}
use Rattle.row_codec.proofs.BodyLemmas.{has_plain}
use Rattle.row_codec.proofs.fitting.past_plain.Goals as goal

pub returns-clause-same : goal.returns-clause-same
returns-clause-same c = λ words row.
    let text = c.args.text.now in
    let n = c.plain_front.result in
    subst (λ t. HasBody words text row ↔ HasBody words t row) (sym (take_rest text n))
    (subst (λ t. HasBody words t row ↔ HasBody words (drop n text) row) (take-append-drop n text)
    (has_plain words (take n text) (drop n text) row c.plain_front.ensures.plain))
