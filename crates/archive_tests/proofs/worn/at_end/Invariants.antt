use Rattle.record_format.specs.Header.{IsHeader}
use Rattle.archive_tests.proofs.worn.at_end.Given as goal

abbrev pub invariant-loop-step : goal.invariant-loop-step
invariant-loop-step l = IsHeader l.journal.header
