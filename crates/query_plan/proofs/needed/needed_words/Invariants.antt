use Rattle.std.proofs.Common.{◌≡◌, ◌++◌, length}
use Rattle.query_plan.specs.Pieces.{needed_of, Free}
use Rattle.query_plan.specs.Cutting.{side}
use Rattle.query_plan.proofs.needed.needed_words.Given as goal

abbrev pub decreases-loop-first : goal.decreases-loop-first
decreases-loop-first l = length l.rest

-- the words so far and those of what is left are those of all
abbrev pub invariant-loop-first : goal.invariant-loop-first
invariant-loop-first l = l.words.items ++ needed_of (side l.after_mark) l.rest ≡ needed_of Free l.pieces
