use Rattle.std.proofs.Common.{◌≡◌, length}
use Rattle.host_files.proofs.log_file.read_again.Given as goal

-- a read that was interrupted took nothing, and the buffer keeps its length
abbrev pub invariant-loop : goal.invariant-loop
invariant-loop g l = (g.F.Input.left l.file ≡ g.F.Input.left l.fn.file) × (length l.buf ≡ length l.initial.buf)
