-- What is told of a segment without its head's list of words.
use Rattle.std.specs.Prelude.{◌≡◌, ℕ, List, true, Some, slice_get}
use Rattle.segment_format.specs.declared.head.Head.{Head}
use Rattle.query_plan.specs.declared.pieces.Piece.{Piece}
use Rattle.query_plan.specs.Needs.{needed_variables_of}
use Rattle.query_plan.specs.Pieces.{Free}

-- no needed word of the pieces is a variable
abbrev pub NeedsNoVariable : List Piece → Type 0
NeedsNoVariable ps = (k : ℕ) → ¬ (slice_get (needed_variables_of Free ps) k ≡ Some true)

-- the head with these words in the place of its own
abbrev pub with_words : List ℕ → Head → Head
with_words words head = record head { words = words }
