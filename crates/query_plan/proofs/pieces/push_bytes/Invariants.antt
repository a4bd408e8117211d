use Rattle.std.proofs.Common.{◌≡◌, ◌++◌, [], drop}
use Rattle.query_plan.specs.Pieces.{bytes}
use Rattle.query_plan.proofs.pieces.push_bytes.Given as goal

abbrev pub invariant-loop-byte : goal.invariant-loop-byte
invariant-loop-byte l = l.items.items ++ bytes (drop l.byte-index l.token) [] ≡ l.initial.items.items ++ bytes l.token []
