use Rattle.std.proofs.Common.{◌≡◌, ◌≤◌, true, length, take, option_map}
use Rattle.std.specs.Prelude.{IfSome}
use Rattle.log_seams.specs.Disk.{laid}
use Rattle.host_files.proofs.offsets.write_full.Given as goal

-- the lock is held, and the first so many of the bytes are written
abbrev pub invariant-loop : goal.invariant-loop
invariant-loop g l =
    (l.done ≤ length l.bytes)
    × (g.F.OffsetFile.is_locked l.file ≡ true)
    × (IfSome (g.F.OffsetFile.content l.fn.file) (λ old. l.offset ≤ length old)
    → g.F.OffsetFile.content l.file ≡ option_map (laid l.offset (take l.done l.bytes)) (g.F.OffsetFile.content l.fn.file))
