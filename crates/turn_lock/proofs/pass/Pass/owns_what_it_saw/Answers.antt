use Rattle.turn_lock.proofs.OwnLemmas.{own_seen}
use Rattle.turn_lock.proofs.pass.Pass.owns_what_it_saw.Goals as goal

pub returns : goal.returns
returns g c = let p = c.args.self.now in record { places = λ j e s. own_seen p.number p.seat.me.0.seen j e s }
