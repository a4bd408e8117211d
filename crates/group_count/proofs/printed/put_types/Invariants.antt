use Rattle.std.proofs.Common.{◌≡◌, ◌++◌, take}
use Rattle.search_meaning.specs.GroupLines.{types_text}
use Rattle.group_count.proofs.printed.put_types.Given as goal

-- the lines of the groups up to here are written
abbrev pub invariant-loop-group : goal.invariant-loop-group
invariant-loop-group l = l.out.items ≡ l.fn.out.items ++ types_text (take l.group-index l.groups)
