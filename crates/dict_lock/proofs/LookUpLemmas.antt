-- Looking up many texts: from their places to the numbers that are held with them.
use Rattle.std.proofs.Common.{◌≡◌, ◌≢◌, ◌⊎◌, ⊎_elim, inl, inr, ℕ, zero, suc, ◌+◌, ◌<◌, ◌≤◌, ◌==◌, Bool, true, false, List, [], ◌∷◌, refl, sym, ap, subst, ◌∙◌, arith, Some, slice_get, slice_set}
use Rattle.std.specs.Prelude.{MatchBool, not, ◌||◌}
use Rattle.std.specs.List.{list_any}
use Rattle.std.proofs.lemmas.Bool.{eqb-true, eqb-false}
use Rattle.std.proofs.lemmas.Option.{slice_get_within, none-some, same_Some}
use Rattle.dict_core.specs.Lookups.{Fits, IsNumberOf}
use Rattle.dict_lock.specs.Cache.{CacheState, Remembers, HoldsAll}
use Rattle.dict_lock.specs.StepsOfNaming.{HasNoMark, IsHeldAs, AreHeld, FoundAll}
use Rattle.dict_lock.specs.declared.naming.TheConstants.{UNKNOWN}
use Rattle.dict_lock.proofs.CacheLemmas.{slice_get-some}
use Rattle.dict_lock.proofs.NamingLemmas.{slice_get-set, same_text, holds_not, found_all}

-- a place leads to the number that the text is held with
pub held_as : (cache : CacheState) (before : List ℕ) (place n k : ℕ) (text : List ℕ) → slice_get before k ≡ Some place → IsNumberOf cache.texts place text →
    (place ≢ UNKNOWN → slice_get cache.numbers place ≡ Some n) → (place ≡ UNKNOWN → n ≡ UNKNOWN) → IsHeldAs (HasNoMark before) cache n text
held_as cache before place n k text was is held mark = record {
  known = λ real. remembers (λ same. real (mark same));
  all = λ none. remembers (λ same. none k (was ∙ ap (λ m. Some m) same));
}
  where
    remembers : place ≢ UNKNOWN → Remembers cache text n
    remembers real = record { place = place; text_is = is.here real; number_is = held real }

-- a number put at a place, for what is known up to the place
pub held_front : (cache : CacheState) (before numbers : List ℕ) (texts : List (List ℕ)) (m place : ℕ) (given : List ℕ) → slice_get texts place ≡ Some given → IsHeldAs (HasNoMark before) cache m given →
    ((k n : ℕ) (text : List ℕ) → k < place → slice_get numbers k ≡ Some n → slice_get texts k ≡ Some text → IsHeldAs (HasNoMark before) cache n text) →
    (k n : ℕ) (text : List ℕ) → k < place + 1 → slice_get (slice_set numbers place m) k ≡ Some n → slice_get texts k ≡ Some text → IsHeldAs (HasNoMark before) cache n text
held_front cache before numbers texts m place given here mine old k n text low at there = ⊎_elim
    (λ (e : (k ≡ place) × (Some m ≡ Some n)).
    let n_is : m ≡ n = cc (e.1) in let text_is : given ≡ text = cc (same_text texts place given text here (sym (ap (slice_get texts) e.0) ∙ there)) in
    subst (λ t. IsHeldAs (HasNoMark before) cache n t) text_is (subst (λ j. IsHeldAs (HasNoMark before) cache j given) n_is mine))
    (λ (e : (k ≢ place) × (slice_get numbers k ≡ Some n)). let ne = e.0 in old k n text (omega arith) e.1 there)
    (slice_get-set numbers place k m n at)

-- and what stands behind it stays
slice_get-other : {A : Type 0} (xs : List A) (i k : ℕ) (v : A) → i < k → slice_get (slice_set xs i v) k ≡ slice_get xs k
slice_get-other [] i k v low = refl
slice_get-other (y ∷ ys) zero zero v low = absurd (omega (arith, low))
slice_get-other (y ∷ ys) zero (suc k) v low = refl
slice_get-other (y ∷ ys) (suc i) zero v low = absurd (omega (arith, low))
slice_get-other (y ∷ ys) (suc i) (suc k) v low = slice_get-other ys i k v (omega (arith, low))

pub same_behind : (before numbers : List ℕ) (m place : ℕ) → ((k : ℕ) → place ≤ k → slice_get numbers k ≡ slice_get before k) →
    (k : ℕ) → place + 1 ≤ k → slice_get (slice_set numbers place m) k ≡ slice_get before k
same_behind before numbers m place same k low = slice_get-other numbers place k m (omega (arith, low)) ∙ same k (omega (arith, low))

-- whether a mark is among numbers
some_true : (a b : Bool) → (a || b) ≡ true → (a ≡ true) ⊎ (b ≡ true)
some_true true b is = inl refl
some_true false b is = inr is

both_false : (a b : Bool) → (a || b) ≡ false → (a ≡ false) × (b ≡ false)
both_false true b is = absurd (cc (is))
both_false false b is = (refl, is)

some_mark : (numbers : List ℕ) → list_any (λ y. y == UNKNOWN) numbers ≡ true → (k : ℕ) × (slice_get numbers k ≡ Some UNKNOWN)
some_mark [] is = absurd (cc (is))
some_mark (n ∷ ns) is = ⊎_elim
    (λ (e : (n == UNKNOWN) ≡ true). (0, ap (λ m. Some m) (eqb-true n UNKNOWN e)))
    (λ (r : list_any (λ y. y == UNKNOWN) ns ≡ true). let found = some_mark ns r in (suc found.0, found.1))
    (some_true (n == UNKNOWN) (list_any (λ y. y == UNKNOWN) ns) is)

none_marked : (numbers : List ℕ) → list_any (λ y. y == UNKNOWN) numbers ≡ false → HasNoMark numbers
none_marked [] is k at = none-some UNKNOWN at
none_marked (n ∷ ns) is zero at = eqb-false n UNKNOWN (both_false (n == UNKNOWN) (list_any (λ y. y == UNKNOWN) ns) is).0 (same_Some n UNKNOWN at)
none_marked (n ∷ ns) is (suc k) at = none_marked ns (both_false (n == UNKNOWN) (list_any (λ y. y == UNKNOWN) ns) is).1 k at

pub no_mark : (numbers : List ℕ) (b : Bool) → b ≡ list_any (λ y. y == UNKNOWN) numbers → MatchBool (not b) (HasNoMark numbers) ((k : ℕ) × (slice_get numbers k ≡ Some UNKNOWN))
no_mark numbers true is = some_mark numbers (sym is)
no_mark numbers false is = none_marked numbers (sym is)

-- where there is no mark all are held, and else one is not
pub looked_up : (cache : CacheState) (texts : List (List ℕ)) (places numbers : List ℕ) (b : Bool) → Fits (IsNumberOf cache.texts) places texts → Fits (IsHeldAs (HasNoMark places) cache) numbers texts →
    MatchBool b (HasNoMark places) ((k : ℕ) × (slice_get places k ≡ Some UNKNOWN)) → MatchBool b (FoundAll cache numbers texts) (¬ HoldsAll cache texts)
looked_up cache texts places numbers true fits held none =
    let all : AreHeld cache numbers texts = λ k n text at there. (held.at k n text at there).all none in found_all cache texts numbers (¬ HoldsAll cache texts) true (omega (arith, held.long)) all
looked_up cache texts places numbers false fits held mark =
    let low = slice_get_within places mark.0 UNKNOWN mark.1 in
    let given = slice_get-some texts mark.0 (omega (arith, low, fits.long)) in
    holds_not cache texts mark.0 given.0 given.1 ((fits.at mark.0 UNKNOWN given.0 mark.1 given.1).new refl)
