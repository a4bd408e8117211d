use Rattle.std.proofs.Common.{rules, ap, ◌∙◌}
use Rattle.turn_lock.proofs.RuleKeptLemmas.{draws}
use Rattle.turn_lock.proofs.steps.draw.Goals as goal

pub compare_exchange-found-requires : goal.compare_exchange-found-requires
compare_exchange-found-requires g c = let same = c.loop.invariant.3 in (
  search rules,
  search rules,
  draws _ _ _ _ _ _ c.loop.seat.id c.loop.seat.me _ (ap (λ m. m.0.ticket) same ∙ c.requires.free.0) (ap (λ m. m.0.inside) same ∙ c.requires.free.1) (search rules),
)
