use Rattle.std.proofs.Common.{inr}
use Rattle.turn_lock.proofs.OwnLemmas.{own_same}
use Rattle.turn_lock.proofs.maker.Maker.join.Goals as goal

pub returns-clause-own : goal.returns-clause-own
returns-clause-own g c = λ n has. own_same n _ _ c.join.ensures.view.1 (c.join.ensures.view.3 n (inr has))

pub returns-clause-taken : goal.returns-clause-taken
returns-clause-taken g c = own_same c.args.pass.number _ _ c.join.ensures.view.2 (c.join.ensures.view.4 c.args.pass.number c.args.pass.worker.0)
