use Rattle.std.proofs.Common.{ℕ, List, ◌++◌, take, sym, ◌∙◌, ap, take-append-drop}
use Rattle.row_codec.proofs.BodyLemmas.{puts_plain}
use Rattle.row_codec.proofs.expanding.put_plain.Goals as goal

pub returns-clause-put : goal.returns-clause-put
returns-clause-put c = λ words row.
    let text = c.args.text.now in
    let n = c.plain_front-len.result in
    let cut = sym (ap (λ (l : List ℕ). take n text ++ l) c.split_at.ensures.back ∙ take-append-drop n text) in
    puts_plain words text row (take n text) c.split_at.result.1.now c.args.out.now.items c.put_front.new.out.items cut c.plain_front-len.ensures.plain c.in_ok-put_front.ensures.put
