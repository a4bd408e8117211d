use Rattle.std.proofs.Common.{◌≡◌, ℕ, ◌≤◌, List, length, slice_get, Some, vec_capacity}
use Rattle.dict_core.specs.Lookups.{IsNumberOf}
use Rattle.dict_core.proofs.book.Book.numbers_of.Given as goal

abbrev pub invariant-loop-next : goal.invariant-loop-next
invariant-loop-next g l = let texts = g.T.TextSlice.texts l.texts in record {
  long : length l.numbers.items ≡ l.next;
  room : length texts ≤ vec_capacity l.numbers;
  at : (k n : ℕ) (text : List ℕ) → slice_get l.numbers.items k ≡ Some n → slice_get texts k ≡ Some text → IsNumberOf l.self.texts n text;
}
