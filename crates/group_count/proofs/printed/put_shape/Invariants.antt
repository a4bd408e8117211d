use Rattle.std.proofs.Common.{◌≡◌, ◌++◌, length}
use Rattle.search_meaning.specs.GroupLines.{shape_of}
use Rattle.group_count.proofs.printed.put_shape.Given as goal

abbrev pub decreases-loop-rest : goal.decreases-loop-rest
decreases-loop-rest l = length l.rest

-- what is written and the shape of what is left are the shape of all
abbrev pub invariant-loop-rest : goal.invariant-loop-rest
invariant-loop-rest l = l.out.items ++ shape_of l.rest ≡ l.fn.out.items ++ shape_of l.text
