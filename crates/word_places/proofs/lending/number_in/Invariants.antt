use Rattle.std.proofs.Common.{◌≡◌, ◌<◌, ℕ}
use Rattle.std.specs.Prelude.{Some, slice_get}
use Rattle.plain_list.specs.Texts.{IsNew}
use Rattle.word_places.specs.declared.held.HeldRecord.{HeldRecord}
use Rattle.word_places.specs.Held.{lent}
use Rattle.word_places.proofs.lending.number_in.Given as goal

abbrev pub invariant-loop-at : goal.invariant-loop-at
invariant-loop-at l = (k : ℕ) (r : HeldRecord) → k < l.at → slice_get l.records k ≡ Some r → IsNew (lent r) l.text
