use Rattle.std.proofs.Common.{rules}
use Rattle.query_plan.proofs.PlanLemmas.{flat_more}
use Rattle.query_plan.proofs.pieces.items_of.Goals as goal

pub loop-first-preserved : goal.loop-first-preserved
loop-first-preserved c = search (rules, flat_more)
