use Rattle.std.proofs.Common.{◌≡◌, ℕ, List, ◌++◌, take}
use Rattle.group_count.specs.Tables.{HoldTypes}
use Rattle.group_count.proofs.types.TypeTable.count_all.Given as goal

abbrev pub invariant-loop-number : goal.invariant-loop-number
invariant-loop-number l =
    (l.self.limit ≡ l.fn.self.limit)
    × ((before : List ℕ) → HoldTypes l.fn.self before → HoldTypes l.self (before ++ take l.number-index l.numbers))
