use Rattle.std.proofs.Common.{inl}
use Rattle.turn_lock.proofs.OwnLemmas.{own_same}
use Rattle.turn_lock.proofs.pass.Pass.join.Goals as goal

pub returns-clause-own : goal.returns-clause-own
returns-clause-own g c = let n = c.args.self.now.number in own_same n _ _ c.join.ensures.view.1 (c.join.ensures.view.3 n (inl c.args.self.now.worker.0))
