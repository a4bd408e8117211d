use Rattle.std.proofs.Common.{rules, ◌≡◌, ◌++◌, ◌∷◌, ap, sym, ◌∙◌}
use Rattle.query_plan.specs.Pieces.{needed_of}
use Rattle.query_plan.specs.Cutting.{side}
use Rattle.query_plan.proofs.NeededLemmas.{needed_step}
use Rattle.query_plan.proofs.needed.needed_words.Goals as goal

pub loop-first-preserved : goal.loop-first-preserved
loop-first-preserved c =
    let l = c.loop-first in
    let first = c.in-Some.first.now in
    let behind = c.in-Some.behind.now in
    let rest : l.rest.now ≡ first ∷ behind = search rules in
    needed_step l.words.items c.push_needed.new.words.items l.after_mark first behind c.is_mark-after_mark.result (search rules) (search rules)
    ∙ ap (λ r. l.words.items ++ needed_of (side l.after_mark) r) (sym rest) ∙ l.invariant
