use Rattle.std.proofs.Common.{◌≡◌, ◌++◌, drop}
use Rattle.wild_match.specs.Runs.{literal_bytes}
use Rattle.wild_match.proofs.runs.bytes_of.Given as goal

-- the bytes so far and those of what is left are those of all
abbrev pub invariant-loop-i : goal.invariant-loop-i
invariant-loop-i l = l.bytes.items ++ literal_bytes (drop l.i l.items) ≡ literal_bytes l.items
