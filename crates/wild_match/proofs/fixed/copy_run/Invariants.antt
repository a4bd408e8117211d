use Rattle.std.proofs.Common.{◌≡◌, ◌≤◌, length}
use Rattle.wild_match.proofs.Stepping.{Copied}
use Rattle.wild_match.proofs.fixed.copy_run.Given as goal

abbrev pub invariant-loop-i : goal.invariant-loop-i
invariant-loop-i l = record { within : l.i ≤ length l.items; copied : Copied l.items l.room l.i; room : length l.room ≡ 32 }
