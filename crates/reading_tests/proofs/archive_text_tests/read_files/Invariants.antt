use Rattle.std.proofs.Common.{◌≡◌}
use Rattle.reading_tests.proofs.archive_text_tests.read_files.Given as goal

abbrev pub invariant-loop-number : goal.invariant-loop-number
invariant-loop-number g l = (g.D.Disk.state l.disk).seen ≡ (g.D.Disk.state l.initial.disk).seen
