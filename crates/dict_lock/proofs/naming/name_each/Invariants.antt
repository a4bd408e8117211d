use Rattle.std.proofs.Common.{◌≡◌, ◌≢◌, ℕ, ◌<◌, ◌≤◌, List, length, slice_get, Some}
use Rattle.dict_lock.specs.StepsOfNaming.{AddsAmong}
use Rattle.dict_lock.specs.declared.naming.TheConstants.{UNKNOWN}
use Rattle.dict_lock.proofs.naming.name_each.Given as goal

abbrev pub invariant-loop-place : goal.invariant-loop-place
invariant-loop-place g l = let texts = g.T.TextSlice.texts l.texts in record {
  long : length l.numbers.items ≡ length texts;
  added : AddsAmong l.initial.book l.book texts;
  named : (k n : ℕ) (text : List ℕ) → k < l.place → slice_get l.numbers.items k ≡ Some n → slice_get texts k ≡ Some text → slice_get l.book.texts n ≡ Some text;
  marked : (k n : ℕ) (text : List ℕ) → l.place ≤ k → slice_get l.numbers.items k ≡ Some n → slice_get texts k ≡ Some text → n ≢ UNKNOWN → slice_get l.book.texts n ≡ Some text;
}
