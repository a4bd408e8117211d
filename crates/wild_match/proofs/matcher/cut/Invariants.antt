use Rattle.std.proofs.Common.{◌≡◌, ◌≤◌, length}
use Rattle.wild_match.specs.Matches.{joined}
use Rattle.wild_match.proofs.matcher.cut.Given as goal

-- the pieces so far, and what is left as their tail
abbrev pub invariant-pieces : goal.invariant-pieces
invariant-pieces l = record { told : joined l.pieces.items l.rest ≡ l.fn.items; short : length l.rest ≤ length l.fn.items }

abbrev pub decreases-pieces : goal.decreases-pieces
decreases-pieces l = length l.rest
