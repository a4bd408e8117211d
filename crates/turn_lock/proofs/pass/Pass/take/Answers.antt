use Rattle.std.proofs.Common.{rules, ap, ◌∙◌, ◌≡◌, ◌∷◌, subst, sym, slice_get, Some}
use Rattle.turn_lock.specs.History.{entries_of, own}
use Rattle.turn_lock.proofs.HandedLemmas.{own_taken, others_taken}
use Rattle.turn_lock.proofs.pass.Pass.take.Goals as goal

pub exchange-held-requires : goal.exchange-held-requires
exchange-held-requires g c = let came = c.wait.ensures.came in (search rules, (Some came.0, ap (λ m. m.1) came.2 ∙ ap (λ l. (0, Some came.0) ∷ Rattle.atomic_table.specs.Table.rest l) (sym (ap (λ m. m.1) came.2))))

pub returns-clause-own : goal.returns-clause-own
returns-clause-own g c = let p = c.args.self.now in
    ap (λ m. own p.number m.0.seen) c.exchange-held.ensures.3 ∙ own_taken g.V.Grows.entries g.V.Grows.fixed g.V.Grows.may_add p.seat.me c.draw-ticket.new.seat.me c.wait.new.seat.me c.draw-ticket.result p.number c.draw-ticket.ensures.view c.wait.ensures.came p.worker.0

pub returns-clause-others : goal.returns-clause-others
returns-clause-others g c = let p = c.args.self.now in λ a j e is le get.
    others_taken g.V.Grows.entries g.V.Grows.fixed g.V.Grows.may_add p.seat.me c.draw-ticket.new.seat.me c.wait.new.seat.me c.draw-ticket.result p.number c.draw-ticket.ensures.view c.wait.ensures.came p.worker.0 a j e is le
    (subst (λ m. slice_get (entries_of m.0.seen) j ≡ Some e) c.exchange-held.ensures.3 get)
