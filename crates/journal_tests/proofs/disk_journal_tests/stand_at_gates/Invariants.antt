use Rattle.std.proofs.Common.{ℕ}
use Rattle.disk_journal.specs.State.{IsAtEnd}
use Rattle.disk_journal.specs.Journal.{state_of}
use Rattle.disk_journal.specs.Gates.{IsGate}
use Rattle.journal_tests.proofs.disk_journal_tests.stand_at_gates.Given as goal

abbrev pub invariant-loop-place : goal.invariant-loop-place
invariant-loop-place g l = IsAtEnd (state_of l.journal) × ((k : ℕ) × IsGate k l.at (state_of l.journal))
