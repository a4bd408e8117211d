use Rattle.std.proofs.Common.{◌≡◌}
use Rattle.host_files.proofs.stream.write_again.Given as goal

-- a write that was interrupted wrote nothing
abbrev pub invariant-loop : goal.invariant-loop
invariant-loop g l = g.W.Output.taken l.to ≡ g.W.Output.taken l.fn.to
