use Rattle.turn_lock.proofs.OwnLemmas.{own_seen, one_owner}
use Rattle.turn_lock.proofs.maker.Maker.one_owner.Goals as goal

pub returns-clause-owner : goal.returns-clause-owner
returns-clause-owner g c = λ n k j d e s t. one_owner n k c.args.self.now.seat.me.0.seen j d e s t

pub returns-clause-places : goal.returns-clause-places
returns-clause-places g c = λ n j e s. own_seen n c.args.self.now.seat.me.0.seen j e s
