use Rattle.std.proofs.Common.{◌+◌, length}
use Rattle.text_tests.proofs.wild_match_tests.+slow.Given as goal

abbrev pub decreases-slow : goal.decreases-slow
decreases-slow l = length l.items.now + length l.bytes.now
