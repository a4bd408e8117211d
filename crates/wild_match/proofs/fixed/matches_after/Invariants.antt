use Rattle.std.proofs.Common.{◌≤◌, ◌∷◌, length}
use Rattle.wild_match.specs.declared.pattern.Item.TheVariants.{Many}
use Rattle.wild_match.specs.Matches.{Match}
use Rattle.wild_match.proofs.fixed.matches_after.Given as goal

-- what is left decides
abbrev pub invariant-pieces : goal.invariant-pieces
invariant-pieces l = record {
  enough : Match (Many ∷ l.rest) l.left → Match (Many ∷ l.fn.items) l.fn.bytes;
  needed : Match (Many ∷ l.fn.items) l.fn.bytes → Match (Many ∷ l.rest) l.left;
  items : length l.rest ≤ length l.fn.items;
  bytes : length l.left ≤ length l.fn.bytes;
}

abbrev pub decreases-pieces : goal.decreases-pieces
decreases-pieces l = length l.rest
