use Rattle.std.proofs.Common.{rules, refl}
use Rattle.search_walk.proofs.AnswerLemmas.{on_err}
use Rattle.search_engine.proofs.SlotLemmas.{gathered_damaged, gathered_end, gathered_first, gathered_next, gathered_stops}
use Rattle.search_engine.proofs.gathering.gather_all.Goals as goal

pub loop-slot-init : goal.loop-slot-init
loop-slot-init g c = (gathered_first c.args.slots.now _, refl)

pub loop-slot-preserved : goal.loop-slot-preserved
loop-slot-preserved g c = (
  gathered_next c.args.slots.now c.loop-slot.slot-index _ _ _ _ (search rules) c.slot-item.is c.loop-slot.invariant.0 c.in_ok-gather.ensures.done,
  search rules,
)

pub returns-in_err-gather-clause-stopped : goal.returns-in_err-gather-clause-stopped
returns-in_err-gather-clause-stopped g c =
    on_err c.from_residual.result _ (gathered_stops c.args.slots.now c.loop-slot.slot-index _ _ _ _ _ (search rules) c.slot-item.is c.loop-slot.invariant.0 c.in_err-gather.ensures.stopped)

pub returns-in_err-gather-clause-damaged : goal.returns-in_err-gather-clause-damaged
returns-in_err-gather-clause-damaged g c = λ is.
    gathered_damaged c.args.slots.now c.loop-slot.slot-index _ (search rules) c.slot-item.is (c.in_err-gather.ensures.damaged (search rules))

pub returns-clause-done : goal.returns-clause-done
returns-clause-done g c = gathered_end c.args.slots.now c.loop-slot.slot-index _ _ (search rules) c.loop-slot.invariant.0
