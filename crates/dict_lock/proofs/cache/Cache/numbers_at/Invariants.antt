use Rattle.std.proofs.Common.{◌≡◌, ℕ, ◌<◌, ◌≤◌, List, length, slice_get, Some}
use Rattle.dict_lock.specs.StepsOfNaming.{HasNoMark, IsHeldAs}
use Rattle.dict_lock.proofs.cache.Cache.numbers_at.Given as goal

-- behind the place the numbers are those before
abbrev pub invariant-loop-next : goal.invariant-loop-next
invariant-loop-next g l = let texts = g.T.TextSlice.texts l.texts in let before = l.initial.numbers.items in record {
  long : length l.numbers.items ≡ length texts;
  same : (k : ℕ) → l.next ≤ k → slice_get l.numbers.items k ≡ slice_get before k;
  held : (k n : ℕ) (text : List ℕ) → k < l.next → slice_get l.numbers.items k ≡ Some n → slice_get texts k ≡ Some text → IsHeldAs (HasNoMark before) l.self n text;
}
