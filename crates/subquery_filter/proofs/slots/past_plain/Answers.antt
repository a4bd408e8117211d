use Rattle.std.proofs.Common.{◌∙◌, ap, drop, false, sym, take, take-append-drop}
use Rattle.std.proofs.lemmas.List.{take_rest}
use Rattle.subquery_filter.specs.StepsLetters.{kinds_in}
use Rattle.subquery_filter.proofs.TokenLemmas.{kinds_plain}
use Rattle.subquery_filter.proofs.slots.past_plain.Goals as goal

pub returns-clause-same : goal.returns-clause-same
returns-clause-same c =
    let text = c.args.text.now in
    let n = c.plain_front.result in
    ap (kinds_in false) (take_rest text n) ∙ sym (kinds_plain (take n text) (drop n text) c.plain_front.ensures.plain)
    ∙ ap (kinds_in false) (take-append-drop n text)
