use Rattle.std.proofs.Common.{◌≡◌, ℕ, List, ◌++◌, drop}
use Rattle.std.specs.Prelude.{false}
use Rattle.row_codec.specs.Numbers.{kinds_from, word_numbers}
use Rattle.archive_core.proofs.numbers.push_numbers.Given as goal

abbrev pub invariant-loop-byte : goal.invariant-loop-byte
invariant-loop-byte l =
    (done : List ℕ) × (l.out.items ≡ l.initial.out.items ++ done)
    × (word_numbers (kinds_from false l.text) l.words ≡ done ++ word_numbers (kinds_from l.escaped (drop l.byte-index l.text)) l.left)
