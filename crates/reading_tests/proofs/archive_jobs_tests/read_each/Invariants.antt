use Rattle.std.proofs.Common.{◌≡◌, true}
use Rattle.reading_tests.proofs.archive_jobs_tests.read_each.Given as goal

abbrev pub invariant-loop-job : goal.invariant-loop-job
invariant-loop-job g l = l.opener.is_idle ≡ true
