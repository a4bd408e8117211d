use Rattle.std.proofs.Common.{◌≡◌, ◌≤◌, length}
use Rattle.std.specs.Prelude.{IfSome}
use Rattle.host_files.proofs.OffsetLemmas.{Filled}
use Rattle.host_files.proofs.offsets.read_full.Given as goal

-- what was filled is no more than was wanted and holds the bytes at the offset; the buffer keeps its length, and the
-- file is as it was
abbrev pub invariant-loop : goal.invariant-loop
invariant-loop g l =
    (l.filled ≤ l.wanted) × (length l.buf ≡ length l.initial.buf)
    × (g.F.OffsetFile.content l.file ≡ g.F.OffsetFile.content l.fn.file)
    × (g.F.OffsetFile.is_locked l.file ≡ g.F.OffsetFile.is_locked l.fn.file)
    × IfSome (g.F.OffsetFile.content l.fn.file) (λ bytes. Filled bytes l.offset l.filled l.buf)
