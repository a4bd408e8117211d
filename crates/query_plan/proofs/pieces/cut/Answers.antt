use Rattle.std.proofs.Common.{rules, ◌≡◌, [], ◌++◌, ap, sym, ◌∙◌}
use Rattle.query_plan.specs.Pieces.{pieces}
use Rattle.query_plan.specs.Cutting.{ended, fronted}
use Rattle.query_plan.proofs.PlanLemmas.{ended_none, no_items}
use Rattle.query_plan.proofs.pieces.cut.Goals as goal

pub returns : goal.returns
returns c =
    let nil : c.loop-first.rest.now ≡ [] = no_items c.loop-first.rest.now c.in_default.ensures.cases in
    let last : c.end_token.new.out.items ≡ ended c.loop-first.out.items c.loop-first.token.items = search rules in
    last ∙ ended_none c.loop-first.out.items c.loop-first.token.items
    ∙ ap (λ r. c.loop-first.out.items ++ fronted c.loop-first.token.items (pieces r)) (sym nil) ∙ c.loop-first.invariant
