use Rattle.std.proofs.Common.{rules}
use Rattle.search_walk.proofs.PassLemmas.{keeps_all, keeps_fewer}
use Rattle.search_walk.proofs.passing.kept_of.Goals as goal

pub loop-front-init : goal.loop-front-init
loop-front-init g c = keeps_all c.args.context.now.names c.args.context.now.query c.args.types.now

pub loop-front-preserved : goal.loop-front-preserved
loop-front-preserved g c =
    keeps_fewer c.args.context.now.names c.args.context.now.query c.args.types.now c.loop-front.kept.now c.split_at.result.0.now c.split_at.result.1.now (search rules) (c.rules_out.ensures (search rules)) c.loop-front.invariant
