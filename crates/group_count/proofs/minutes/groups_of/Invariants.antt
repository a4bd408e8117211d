use Rattle.std.proofs.Common.{◌≡◌, ◌++◌, [], All}
use Rattle.search_meaning.specs.Groups.{by_moment}
use Rattle.group_count.specs.Tables.{minute_entries}
use Rattle.group_count.proofs.minutes.groups_of.Given as goal

-- the groups so far and the entries that are left are all entries
abbrev pub invariant-loop-minute : goal.invariant-loop-minute
invariant-loop-minute l =
    (by_moment l.groups.items ++ minute_entries l.minute-iterator ≡ minute_entries l.minutes.entries) × All (λ g. g.key ≡ []) l.groups.items
