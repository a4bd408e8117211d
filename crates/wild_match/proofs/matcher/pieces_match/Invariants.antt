use Rattle.std.proofs.Common.{◌≤◌, ◌∷◌, length, drop}
use Rattle.wild_match.specs.declared.pattern.Item.TheVariants.{Many}
use Rattle.wild_match.specs.Matches.{Match, joined}
use Rattle.wild_match.proofs.matcher.pieces_match.Given as goal

-- the pieces that are left decide over the bytes that are left
abbrev pub invariant-loop-piece : goal.invariant-loop-piece
invariant-loop-piece l = record {
  enough : Match (Many ∷ joined (drop l.piece-index l.pieces) l.tail) l.left → Match (Many ∷ joined l.pieces l.tail) l.fn.bytes;
  needed : Match (Many ∷ joined l.pieces l.tail) l.fn.bytes → Match (Many ∷ joined (drop l.piece-index l.pieces) l.tail) l.left;
  bytes : length l.left ≤ length l.fn.bytes;
}
