use Rattle.std.proofs.Common.{◌≡◌, ℕ, List, take}
use Rattle.std.specs.List.{flat_map}
use Rattle.row_codec.specs.Numbers.{numbers_of_row}
use Rattle.archive_core.specs.LogTypes.{AreKnown}
use Rattle.archive_core.proofs.numbers.push_all.Given as goal

abbrev pub invariant-loop-place : goal.invariant-loop-place
invariant-loop-place g l = (texts : List (List ℕ)) → AreKnown texts l.known → l.out.items ≡ flat_map (numbers_of_row texts) (take l.place (g.R.Rows.rows l.rows))
