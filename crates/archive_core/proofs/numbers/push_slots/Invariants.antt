use Rattle.std.proofs.Common.{◌≡◌, ℕ, List, ◌++◌, drop, map}
use Rattle.row_codec.specs.Numbers.{word_numbers}
use Rattle.archive_core.proofs.SlotsLemmas.{kind_in}
use Rattle.archive_core.proofs.numbers.push_slots.Given as goal

abbrev pub invariant-loop-slot : goal.invariant-loop-slot
invariant-loop-slot l =
    (done : List ℕ) × (l.out.items ≡ l.initial.out.items ++ done)
    × (word_numbers (map kind_in l.slots) l.words ≡ done ++ word_numbers (map kind_in (drop l.slot-index l.slots)) l.left)
