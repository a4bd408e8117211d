use Rattle.std.proofs.Common.{◌+◌}
use Rattle.disk_journal.specs.Journal.{state_of}
use Rattle.disk_journal.specs.declared.record.TheConstants.{FRONT_LEN}
use Rattle.disk_journal.proofs.GateLemmas.{first_gate, next_gate, gate_rests}
use Rattle.journal_tests.proofs.disk_journal_tests.stand_at_gates.Goals as goal

pub loop-place-init : goal.loop-place-init
loop-place-init g c = (c.requires, (0, first_gate (state_of c.args.journal.now) c.requires))

pub loop-place-preserved : goal.loop-place-preserved
loop-place-preserved g c =
    let k = c.loop-place.invariant.1.0 in
    let old = state_of c.loop-place.journal in
    let found = rw c.in-Some.is at c.in_ok-next.ensures.found in
    let next = next_gate k c.loop-place.at _ old found c.loop-place.invariant.1.1 in (
      c.place_at.ensures.at_end,
      (k + 1, gate_rests (k + 1) _ c.loop-place.at FRONT_LEN old (state_of c.place_at.new.self) c.place_at.ensures.reads c.place_at.ensures.stays next),
    )
