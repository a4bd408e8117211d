-- What a cache holds after a text more.
use Rattle.std.proofs.Common.{◌≡◌, ◌≢◌, ◌⊎◌, ⊎_elim, inl, inr, ℕ, zero, suc, ◌+◌, ◌<◌, List, [], ◌∷◌, ◌++◌, length, refl, sym, ap, subst, ◌∙◌, arith, Some, slice_get}
use Rattle.std.proofs.lemmas.List.{length_push}
use Rattle.std.proofs.lemmas.Option.{slice_get_within, none-some}
use Rattle.dict_core.specs.Books.{BookState, Names}
use Rattle.plain_list.specs.Texts.{AreDistinct, IsNew}
use Rattle.dict_lock.specs.Cache.{CacheState, GrowsBy, IsEven, IsSeen, Remembers, Keeps, StaysSeen}
use Rattle.dict_lock.proofs.SharedLemmas.{slice_get-last}

pub slice_get-front : {A : Type 0} (xs ys : List A) (k : ℕ) (x : A) → slice_get xs k ≡ Some x → slice_get (xs ++ ys) k ≡ Some x
slice_get-front [] ys k x at = absurd (none-some x at)
slice_get-front (z ∷ zs) ys zero x at = at
slice_get-front (z ∷ zs) ys (suc k) x at = slice_get-front zs ys k x at

-- an element of a list with one more is an old one or the last
pub slice_get-push : {A : Type 0} (xs : List A) (y x : A) (k : ℕ) → slice_get (xs ++ y ∷ []) k ≡ Some x → (slice_get xs k ≡ Some x) ⊎ ((k ≡ length xs) × (Some y ≡ Some x))
slice_get-push [] y x zero at = inr (refl, at)
slice_get-push [] y x (suc k) at = absurd (none-some x at)
slice_get-push (z ∷ zs) y x zero at = inl at
slice_get-push (z ∷ zs) y x (suc k) at = ⊎_elim (λ e. inl e) (λ e. inr (ap suc e.0, e.1)) (slice_get-push zs y x k at)

pub slice_get-some : {A : Type 0} (xs : List A) (k : ℕ) → k < length xs → (x : A) × (slice_get xs k ≡ Some x)
slice_get-some [] k lt = absurd (omega arith)
slice_get-some (x ∷ xs) zero lt = (x, refl)
slice_get-some (x ∷ xs) (suc k) lt = slice_get-some xs k (omega arith)

pub same_stays : (old new : CacheState) (text : List ℕ) (number : ℕ) → new ≡ old → StaysSeen old new text number
same_stays old new text number same = subst (λ c. StaysSeen old c text number) (sym same) (λ seen was at. was)

-- a text that is held is held with some number
pub held_at : (c : CacheState) (text : List ℕ) (place : ℕ) → length c.numbers ≡ length c.texts → slice_get c.texts place ≡ Some text → (n : ℕ) × Remembers c text n
held_at c text place even at = let lt = slice_get_within c.texts place text at in let n = slice_get-some c.numbers place (omega arith) in
    (n.0, record { place = place; text_is = at; number_is = n.1 })

-- the text comes last, with its number
module _ (old new : CacheState) (text : List ℕ) (number : ℕ) (even : length old.numbers ≡ length old.texts)
    (texts_are : new.texts ≡ old.texts ++ text ∷ []) (numbers_are : new.numbers ≡ old.numbers ++ number ∷ []) where
  pub more_keeps : Keeps old new
  more_keeps t n r = record {
    place = r.place;
    text_is = ap (λ l. slice_get l r.place) texts_are ∙ slice_get-front old.texts (text ∷ []) r.place t r.text_is;
    number_is = ap (λ l. slice_get l r.place) numbers_are ∙ slice_get-front old.numbers (number ∷ []) r.place n r.number_is;
  }

  pub more_holds : (n : ℕ) × Remembers new text n
  more_holds = (
    number,
    record {
      place = length old.texts;
      text_is = ap (λ l. slice_get l (length old.texts)) texts_are ∙ slice_get-last old.texts text;
      number_is = ap (λ l. slice_get l (length old.texts)) numbers_are ∙ (ap (slice_get (old.numbers ++ number ∷ [])) (sym even) ∙ slice_get-last old.numbers number);
    },
  )

  pub more_seen : StaysSeen old new text number
  more_seen seen was at t n r =
      ⊎_elim
      (λ (e : slice_get old.texts r.place ≡ Some t). ⊎_elim
      (λ (f : slice_get old.numbers r.place ≡ Some n). was t n (record { place = r.place; text_is = e; number_is = f }))
      (λ (f : (r.place ≡ length old.numbers) × (Some number ≡ Some n)). let lt = slice_get_within old.texts r.place t e in let far = f.0 in absurd (omega arith))
      (slice_get-push old.numbers number n r.place (sym (ap (λ l. slice_get l r.place) numbers_are) ∙ r.number_is)))
      (λ (e : (r.place ≡ length old.texts) × (Some text ≡ Some t)). ⊎_elim
      (λ (f : slice_get old.numbers r.place ≡ Some n). let lt = slice_get_within old.numbers r.place n f in let far = e.0 in absurd (omega arith))
      (λ (f : (r.place ≡ length old.numbers) × (Some number ≡ Some n)). let n_is : number ≡ n = cc (f.1) in ap (slice_get seen) (sym n_is) ∙ (at ∙ e.1))
      (slice_get-push old.numbers number n r.place (sym (ap (λ l. slice_get l r.place) numbers_are) ∙ r.number_is)))
      (slice_get-push old.texts text t r.place (sym (ap (λ l. slice_get l r.place) texts_are) ∙ r.text_is))

-- a place behind all that was known is that of a text that was added, and another is that of a known one
pub named_last : (old new : BookState) (text : List ℕ) (place : ℕ) → Names old new text place → place ≡ length old.texts → new.texts ≡ old.texts ++ text ∷ []
named_last old new text place names last = ⊎_elim
    (λ (known : (slice_get old.texts place ≡ Some text) × (new ≡ old)). let lt = slice_get_within old.texts place text known.0 in absurd (omega arith))
    (λ (added : IsNew old.texts text × (length old.texts < old.limit) × (place ≡ length old.texts) × (new.texts ≡ old.texts ++ text ∷ []) × (new.limit ≡ old.limit)). added.3) names

pub named_before : (old new : BookState) (text : List ℕ) (place : ℕ) → Names old new text place → place ≢ length old.texts → (slice_get old.texts place ≡ Some text) × (new ≡ old)
named_before old new text place names not_last = ⊎_elim
    (λ (known : (slice_get old.texts place ≡ Some text) × (new ≡ old)). known)
    (λ (added : IsNew old.texts text × (length old.texts < old.limit) × (place ≡ length old.texts) × (new.texts ≡ old.texts ++ text ∷ []) × (new.limit ≡ old.limit)). absurd (not_last added.2)) names

-- the texts stay distinct
pub distinct_push : (xs : List (List ℕ)) (t : List ℕ) → AreDistinct xs → IsNew xs t → AreDistinct (xs ++ t ∷ [])
distinct_push xs t distinct absent i j u at_i at_j = ⊎_elim
    (λ (a : slice_get xs i ≡ Some u). ⊎_elim
    (λ (b : slice_get xs j ≡ Some u). distinct i j u a b)
    (λ (b : (j ≡ length xs) × (Some t ≡ Some u)). absurd (absent i (a ∙ sym b.1)))
    (slice_get-push xs t u j at_j))
    (λ (a : (i ≡ length xs) × (Some t ≡ Some u)). ⊎_elim
    (λ (b : slice_get xs j ≡ Some u). absurd (absent j (b ∙ sym a.1)))
    (λ (b : (j ≡ length xs) × (Some t ≡ Some u)). a.0 ∙ sym b.0)
    (slice_get-push xs t u j at_j))
    (slice_get-push xs t u i at_i)

pub grows_distinct : (old new : CacheState) (text : List ℕ) → GrowsBy old new text → AreDistinct old.texts → AreDistinct new.texts
grows_distinct old new text grows distinct = ⊎_elim
    (λ (same : new ≡ old). subst (λ (c : CacheState). AreDistinct c.texts) (sym same) distinct)
    (λ (more : IsNew old.texts text × (new.texts ≡ old.texts ++ text ∷ []) × (length new.numbers ≡ length old.numbers + 1)). subst AreDistinct (sym more.1) (distinct_push old.texts text distinct more.0))
    grows

pub grows_even : (old new : CacheState) (text : List ℕ) → GrowsBy old new text → IsEven old → IsEven new
grows_even old new text grows even = ⊎_elim
    (λ (same : new ≡ old). subst IsEven (sym same) even)
    (λ (more : IsNew old.texts text × (new.texts ≡ old.texts ++ text ∷ []) × (length new.numbers ≡ length old.numbers + 1)).
    omega (arith, more.2, even, ap length more.1, length_push old.texts text))
    grows

-- a text that was not seen is not held
pub not_held : (c : CacheState) (seen : List (List ℕ)) (text : List ℕ) → IsEven c → IsSeen c seen → IsNew seen text → IsNew c.texts text
not_held c seen text even there absent i at = let held = held_at c text i even at in absent held.0 (there text held.0 held.1)

-- what a naming added to a cache's book
pub named_new : (old new : BookState) (text : List ℕ) (place : ℕ) → Names old new text place → place ≡ length old.texts → IsNew old.texts text
named_new old new text place names last = ⊎_elim
    (λ (known : (slice_get old.texts place ≡ Some text) × (new ≡ old)). let lt = slice_get_within old.texts place text known.0 in absurd (omega arith))
    (λ (added : IsNew old.texts text × (length old.texts < old.limit) × (place ≡ length old.texts) × (new.texts ≡ old.texts ++ text ∷ []) × (new.limit ≡ old.limit)). added.0) names
