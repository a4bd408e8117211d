use Rattle.std.proofs.Common.{rules}
use Rattle.turn_lock.proofs.HandedLemmas.{put_serves, seen_after, own_after}
use Rattle.turn_lock.proofs.turn.Turn.put.Goals as goal

pub fetch_add-requires : goal.fetch_add-requires
fetch_add-requires g c = let m = c.args.pass.now in let add = c.requires.adds in (
  search rules,
  search rules,
  put_serves g.V.Grows.entries g.V.Grows.fixed g.V.Grows.may_add m.seat.me c.publish.new.seat.me c.exchange-left.new.seat.me c.args.self.value c.publish.ensures.view c.exchange-left.ensures.3 _ _ _ _ add.0 c.requires.turn add.1 m.known c.requires.fixed m.same.1.1,
)

pub returns-clause-seen : goal.returns-clause-seen
returns-clause-seen g c = let m = c.args.pass.now in let add = c.requires.adds in
    seen_after g.V.Grows.entries g.V.Grows.fixed g.V.Grows.may_add m.seat.me c.publish.new.seat.me c.exchange-left.new.seat.me c.args.self.value c.publish.ensures.view c.exchange-left.ensures.3 c.fetch_add.new.seat.me c.fetch_add.ensures.2 add.0 add.1

pub returns-clause-own : goal.returns-clause-own
returns-clause-own g c = let m = c.args.pass.now in λ rest is.
    own_after g.V.Grows.entries g.V.Grows.fixed g.V.Grows.may_add m.seat.me c.publish.new.seat.me c.exchange-left.new.seat.me c.args.self.value c.publish.ensures.view c.exchange-left.ensures.3 c.fetch_add.new.seat.me c.fetch_add.ensures.2 m.number rest m.worker.0 is
