use Rattle.std.proofs.Common.{ap, ◌∙◌, ◌≡◌}
use Rattle.turn_lock.proofs.EndLemmas.{closes}
use Rattle.turn_lock.proofs.lock.TurnLock.close.Goals as goal

pub unreachable-requires : goal.unreachable-requires
unreachable-requires g c = let m = c.args.maker in
    let end = closes g.V.Grows.entries g.V.Grows.fixed g.V.Grows.may_add _ _ m.seat.id m.seat.me m.made _ _ c.take-held.result c.close_with-closed.ensures.values.2 c.take-held.ensures.value m.free m.maker m.known c.requires.ended in
    c.in_default.not-Some end.0 end.1

pub returns-clause-entries : goal.returns-clause-entries
returns-clause-entries g c = let m = c.args.maker in
    let end = closes g.V.Grows.entries g.V.Grows.fixed g.V.Grows.may_add _ _ m.seat.id m.seat.me m.made _ _ c.take-held.result c.close_with-closed.ensures.values.2 c.take-held.ensures.value m.free m.maker m.known c.requires.ended in
    let same : c.in-Some.value ≡ end.0 = cc (c.in-Some.is, end.1) in ap g.V.Grows.entries same ∙ end.2

pub returns-clause-fixed : goal.returns-clause-fixed
returns-clause-fixed g c = let m = c.args.maker in
    let end = closes g.V.Grows.entries g.V.Grows.fixed g.V.Grows.may_add _ _ m.seat.id m.seat.me m.made _ _ c.take-held.result c.close_with-closed.ensures.values.2 c.take-held.ensures.value m.free m.maker m.known c.requires.ended in
    let same : c.in-Some.value ≡ end.0 = cc (c.in-Some.is, end.1) in λ a is. ap g.V.Grows.fixed same ∙ end.3 a is

pub returns-clause-owned : goal.returns-clause-owned
returns-clause-owned g c = let m = c.args.maker in
    let end = closes g.V.Grows.entries g.V.Grows.fixed g.V.Grows.may_add _ _ m.seat.id m.seat.me m.made _ _ c.take-held.result c.close_with-closed.ensures.values.2 c.take-held.ensures.value m.free m.maker m.known c.requires.ended in
    end.4
