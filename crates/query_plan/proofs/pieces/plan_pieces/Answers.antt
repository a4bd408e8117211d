use Rattle.std.proofs.Common.{rules, ◌≡◌, ◌++◌, ◌∷◌, ap, sym, ◌∙◌}
use Rattle.query_plan.specs.Pieces.{merge, thin}
use Rattle.query_plan.specs.Cutting.{trimmed, side}
use Rattle.query_plan.proofs.PlanLemmas.{thin_step}
use Rattle.query_plan.proofs.pieces.plan_pieces.Goals as goal

pub loop-first-preserved : goal.loop-first-preserved
loop-first-preserved c =
    let l = c.loop-first in
    let first = c.in-Some.first.now in
    let behind = c.in-Some.behind.now in
    let rest : l.rest.now ≡ first ∷ behind = search rules in
    let step : c.in_ok-piece.piece ∷ thin c.spend-left.result (side c.is_mark-after_mark.result) behind ≡ thin l.left (side l.after_mark) (first ∷ behind) =
    thin_step l.left l.after_mark first behind c.opens-opened.result c.may_stay.result c.is_mark-after_mark.result c.in_ok-piece.piece c.spend-left.result
    (search rules) (search rules) (search rules) (search rules) (search rules) in
    c.in_ok-behind_gap.ensures (thin c.spend-left.result (side c.is_mark-after_mark.result) behind)
    ∙ ap (λ ps. l.out.items ++ trimmed l.behind_gap (merge ps)) (step ∙ ap (λ r. thin l.left (side l.after_mark) r) (sym rest))
    ∙ l.invariant
