use Rattle.std.proofs.Common.{◌≡◌, ◌++◌, flat_map, take}
use Rattle.search_meaning.specs.GroupLines.{minute_line}
use Rattle.group_count.proofs.printed.put_all_minutes.Given as goal

-- the lines of the groups up to here are written
abbrev pub invariant-loop-group : goal.invariant-loop-group
invariant-loop-group l = l.out.items ≡ l.fn.out.items ++ flat_map minute_line (take l.group-index l.groups)
