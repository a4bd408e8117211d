-- The texts of log types, counted by their numbers.
use Rattle.std.proofs.Common.{◌≡◌, ◌+◌, ◌<◌, ◌≤◌, ◌^◌, ◌&&◌, ◌∷◌, ◌++◌, ℕ, Bool, IsTrue, IsFalse, true, All, nat_lt, refl, subst, List, [], length, cond, count_by, slice_index_or, arith, ap, sym, ◌∙◌}
use Rattle.std.specs.Ordering.{is_eq}
use Rattle.std.specs.Borrow.{Bor}
use Rattle.std.specs.BTreeMap.{BTreeMap, IsEmpty, IsOrdered, is_at}
use Rattle.std.specs.Map.{lookup}
use Rattle.std.proofs.lemmas.Bool.Decides.{nat_tests}
use Rattle.std.proofs.lemmas.List.{get_or_past}
use Rattle.std.proofs.lemmas.List.Elements.{All-cons, All-head, All-nil, All-tail}
use Rattle.std.proofs.lemmas.List.Sums.{count_by-le-length}
use Rattle.search_meaning.specs.Groups.{AreGroups, by_key, byte_order, how_often}
use Rattle.search_meaning.specs.declared.groups.Group.{Group}
use Rattle.group_count.specs.StepsTypes.{often_below}
use Rattle.group_count.specs.Tables.{AreCounts, AreNumbered, AreTypes, HoldTypes, IsTextTally, TypeState, some_of, text_entries, text_order, texts_at}
use Rattle.std.proofs.lemmas.Cmp.{nat_list_cmp_total}
use Rattle.group_count.proofs.GroupLemmas.{tally_groups}
use Rattle.group_count.proofs.CountLemmas.{count_cons, count_below_more, count_below_all, count_map, count_none}

never : (b : Bool) (n : ℕ) → cond {A = ℕ} (b && nat_lt n 0) 1 0 ≡ 0
never b n = grind (arith, nat_tests)

none_yet : (p : ℕ → Bool) (numbers : List ℕ) → count_by (λ n. p n && nat_lt n 0) numbers ≡ 0
none_yet p [] = refl
none_yet p (n ∷ numbers) = count_cons (λ m. p m && nat_lt m 0) n numbers ∙ (let rest = none_yet p numbers in let here = never (p n) n in omega (arith, rest, here))

-- nothing is counted at the start
pub none_begun : (types : List (List ℕ)) (numbers : List ℕ) (m : BTreeMap (Bor (List ℕ)) ℕ) → IsEmpty m → IsTextTally m (λ q. often_below types q 0 numbers)
none_begun types numbers m empty = λ key.
    ap (lookup (is_at (text_order key))) empty ∙ sym (ap some_of (none_yet (λ (n : ℕ). is_eq (byte_order (slice_index_or types n []) key.now)) numbers))

module _ (types : List (List ℕ)) (counts numbers : List ℕ) (are : AreCounts counts numbers) (numbered : AreNumbered types numbers) where
  -- one place further
  pub often_more : (text : List ℕ) (place : ℕ)
      → often_below types text place numbers + cond (is_eq (byte_order (slice_index_or types place []) text)) (slice_index_or counts place 0) 0
      ≡ often_below types text (place + 1) numbers
  often_more text place =
      let p = λ (n : ℕ). is_eq (byte_order (slice_index_or types n []) text) in
      ap (λ (n : ℕ). often_below types text place numbers + cond (p place) n 0) (are numbered.few place) ∙ sym (count_below_more p place numbers)

  -- and the count fits
  pub often_fits : (text : List ℕ) (place : ℕ)
      → often_below types text place numbers + cond (is_eq (byte_order (slice_index_or types place []) text)) (slice_index_or counts place 0) 0 < 2 ^ 64
  often_fits text place =
      let most : often_below types text (place + 1) numbers ≤ length numbers = count_by-le-length _ numbers in
      omega (arith, often_more text place, numbered.few, most)

  -- behind the last place all are counted
  pub often_all : (text : List ℕ) → often_below types text (length counts) numbers ≡ how_often byte_order text (texts_at types numbers)
  often_all text =
      let p = λ (n : ℕ). is_eq (byte_order (slice_index_or types n []) text) in
      count_below_all p (length counts) numbers (λ m above. sym (are numbered.few m) ∙ get_or_past counts m 0 above)
      ∙ sym (count_map (λ (t : List ℕ). is_eq (byte_order t text)) (λ (n : ℕ). slice_index_or types n []) numbers)

  -- a number that has no text was not counted
  pub none_without_text : (place : ℕ) → length types ≤ place → slice_index_or counts place 0 ≡ 0
  none_without_text place above = are numbered.few place ∙ count_none (length types) place numbers numbered.within above

-- ---- the table

pub all_front : (P : ℕ → Type 0) (xs ys : List ℕ) → All P (xs ++ ys) → All P xs
all_front P [] ys all = All-nil P
all_front P (x ∷ xs) ys all = All-cons P x xs (All-head P x (xs ++ ys) all) (all_front P xs ys (All-tail P x (xs ++ ys) all))

all_more : (P : ℕ → Type 0) (xs : List ℕ) (y : ℕ) → All P xs → P y → All P (xs ++ y ∷ [])
all_more P [] y all is = All-cons P y [] is (All-nil P)
all_more P (x ∷ xs) y all is = All-cons P x (xs ++ y ∷ []) (All-head P x xs all) (all_more P xs y (All-tail P x xs all) is)

all_last : (P : ℕ → Type 0) (xs : List ℕ) (y : ℕ) → All P (xs ++ y ∷ []) → P y
all_last P [] y all = All-head P y [] all
all_last P (x ∷ xs) y all = all_last P xs y (All-tail P x (xs ++ y ∷ []) all)

-- a number more, below the limit
pub counted_below : (a b : TypeState) (old : List ℕ) (numbers : List ℕ) (n : ℕ) → b.limit ≡ a.limit → old ≡ a.counts → b.beyond ≡ a.beyond → n < a.limit
    → ((before : List ℕ) → AreCounts old before → AreCounts b.counts (before ++ n ∷ [])) → HoldTypes a numbers → HoldTypes b (numbers ++ n ∷ [])
counted_below a b old numbers n limit same beyond lt more was = record {
  counts = λ all. more numbers (subst (λ (l : List ℕ). AreCounts l numbers) (sym same) (was.counts (subst (λ (l : ℕ). All (λ m. m < l) numbers) limit (all_front (λ (m : ℕ). m < b.limit) numbers (n ∷ []) all))));
  marked = λ is all. was.marked (subst IsTrue beyond is) (subst (λ (l : ℕ). All (λ m. m < l) numbers) limit (all_front (λ (m : ℕ). m < b.limit) numbers (n ∷ []) all));
  unmarked = λ is. subst (λ (l : ℕ). All (λ m. m < l) (numbers ++ n ∷ [])) (sym limit) (all_more (λ (m : ℕ). m < a.limit) numbers n (was.unmarked (subst IsFalse beyond is)) lt);
}

not_both : (b : Bool) → b ≡ true → IsFalse b → ⊥
not_both b marked unmarked = cc (sym marked ∙ unmarked)

-- a number that is not
pub marked_beyond : (a b : TypeState) (numbers : List ℕ) (n : ℕ) → b.limit ≡ a.limit → b.beyond ≡ true → a.limit ≤ n → HoldTypes b (numbers ++ n ∷ [])
marked_beyond a b numbers n limit beyond le =
    let none : All (λ (m : ℕ). m < b.limit) (numbers ++ n ∷ []) → ⊥ = λ all. let lt = all_last (λ (m : ℕ). m < b.limit) numbers n all in omega (arith, lt, le, limit) in
    record { counts = λ all. absurd (none all); marked = λ is all. none all; unmarked = λ is. absurd (not_both b.beyond beyond is) }

module _ (types : List (List ℕ)) (table : TypeState) (numbers : List ℕ) (are : AreTypes (length types) table numbers) (numbered : AreNumbered types numbers) where
  all_below : All (λ (n : ℕ). n < table.limit) numbers
  all_below = subst (λ (l : ℕ). All (λ n. n < l) numbers) (sym are.0) numbered.within

  pub are_counts : AreCounts table.counts numbers
  are_counts = are.1.counts all_below

  pub are_none_beyond : IsTrue table.beyond → ⊥
  are_none_beyond is = are.1.marked is all_below

-- where nothing is marked each number has a text
pub unmarked_numbered : (types : List (List ℕ)) (table : TypeState) (numbers : List ℕ) → IsFalse table.beyond → AreTypes (length types) table numbers → All (λ n. n < length types) numbers
unmarked_numbered types table numbers unmarked are = subst (λ (l : ℕ). All (λ n. n < l) numbers) are.0 (are.1.unmarked unmarked)

-- the entries of a tally of texts are the groups of these
pub type_groups : (types : List (List ℕ)) (numbers : List ℕ) (m : BTreeMap (Bor (List ℕ)) ℕ) (groups : List Group)
    → IsTextTally m (λ q. how_often byte_order q (texts_at types numbers)) → IsOrdered text_order m → by_key groups ≡ text_entries m.entries
    → AreGroups byte_order (texts_at types numbers) (by_key groups)
type_groups types numbers m groups tally ordered are =
    subst (AreGroups byte_order (texts_at types numbers)) (sym are)
    (tally_groups byte_order (λ (text : Bor (List ℕ)). text.now) nat_list_cmp_total (λ text. record { ref_ptr = (0, 0); now = text }) (λ _. refl) (texts_at types numbers) m tally ordered)
