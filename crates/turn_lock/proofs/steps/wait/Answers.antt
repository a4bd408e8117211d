use Rattle.std.proofs.Common.{rules, ap, ◌∙◌, sym, subst}
use Rattle.turn_lock.specs.StepPlays.{Came}
use Rattle.turn_lock.proofs.RuleKeptLemmas.{looks}
use Rattle.turn_lock.proofs.steps.wait.Goals as goal

pub load-found-requires : goal.load-found-requires
load-found-requires g c = let same = c.loop.invariant.3 in (
  search rules,
  search rules,
  looks _ _ _ _ _ _ c.loop.seat.id c.loop.seat.me c.args.ticket (ap (λ m. m.0.inside) same ∙ c.requires.line.1) (ap (λ m. m.0.ticket) same ∙ c.requires.line.0) (λ none. c.requires.line.3 (sym (ap (λ m. m.0.number) same) ∙ none)),
)

pub returns-then-found-ticket-clause-came : goal.returns-then-found-ticket-clause-came
returns-then-found-ticket-clause-came g c = let same = c.loop.invariant.3 in
    subst (λ m. Came g.V.Grows.entries g.V.Grows.fixed g.V.Grows.may_add m c.load-found.new.seat.me) same ((c.load-found.ensures.2 c.args.ticket (ap (λ m. m.0.ticket) same ∙ c.requires.line.0)).0 (search rules))
