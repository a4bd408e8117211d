use Rattle.std.proofs.Common.{◌≡◌, ◌++◌, pos, All}
use Rattle.search_meaning.specs.Groups.{by_key}
use Rattle.group_count.specs.Tables.{text_entries}
use Rattle.group_count.proofs.text_tally.groups_of.Given as goal

-- the groups so far and the entries that are left are all entries
abbrev pub invariant-loop-text : goal.invariant-loop-text
invariant-loop-text l =
    (by_key l.groups.items ++ text_entries l.text-iterator ≡ text_entries l.tally.entries) × All (λ g. g.moment ≡ pos 0) l.groups.items
