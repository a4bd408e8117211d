use Rattle.std.proofs.Common.{rules, ap, ◌∙◌, sym, length}
use Rattle.turn_lock.proofs.RuleKeptLemmas.{publishes_step}
use Rattle.turn_lock.proofs.steps.publish.Goals as goal

pub swap-requires : goal.swap-requires
swap-requires g c = (
  search rules,
  search rules,
  publishes_step _ _ _ _ _ _ c.args.seat.now.id c.args.seat.now.me _ _ c.requires.turn.0 c.requires.turn.1 (c.count-count.ensures ∙ ap length (sym c.requires.told)) c.requires.adds,
)
