-- Lists that are popped from their end on, which is their front since they were reversed.
use Rattle.std.proofs.Common.{◌≡◌, ◌<◌, refl, sym, ap, subst, ◌∙◌, ℕ, zero, suc, List, [], ◌∷◌, ◌++◌, length, map, take, drop, get_or, reverse, Some, slice_get, arith, append_assoc}
use Rattle.std.proofs.Math.Seq.{take-append_seam}
use Rattle.std.proofs.lemmas.List.{length-append, reverse-append}
use Rattle.std.proofs.lemmas.Option.{slice_get-get_or, slice_get_read}

-- one more was made of the next
pub popped_next : {A B : Type 0} (f : A → B) (done done' : List B) (left left' : List A) (a : A) (b : B) (all : List B) → left ≡ left' ++ a ∷ [] → done' ≡ done ++ b ∷ [] → b ≡ f a → done ++ map f (reverse left) ≡ all → done' ++ map f (reverse left') ≡ all
popped_next f done done' left left' a b all popped pushed is before =
    ap (λ l. l ++ map f (reverse left')) pushed
    ∙ (append_assoc done (b ∷ []) (map f (reverse left'))
    ∙ (ap (λ x. done ++ x ∷ map f (reverse left')) is
    ∙ (ap (λ l. done ++ map f l) (sym (ap reverse popped ∙ reverse-append left' (a ∷ []))) ∙ before)))

-- the next element, and those behind it
pub record Next {A : Type 0} (all : List A) (k : ℕ) (a : A) (behind : List A) : Type 0 where
  pub at : slice_get all k ≡ Some a
  pub rest : drop (suc k) all ≡ behind

pub next_of : {A : Type 0} (all : List A) (k : ℕ) (a : A) (behind : List A) → drop k all ≡ a ∷ behind → Next all k a behind
next_of [] zero a behind is = absurd (cc (is))
next_of [] (suc k) a behind is = absurd (cc (is))
next_of (x ∷ all) zero a behind is = record { at = cc (is); rest = cc (is) }
next_of (x ∷ all) (suc k) a behind is = let one = next_of all k a behind is in record { at = one.at; rest = one.rest }

pub popped_of : {A : Type 0} (left left' : List A) (a : A) → left ≡ left' ++ a ∷ [] → reverse left ≡ a ∷ reverse left'
popped_of left left' a popped = ap reverse popped ∙ reverse-append left' (a ∷ [])

-- what holds of each element holds of one more
pub each_next : {A : Type 0} (P : ℕ → A → Type 0) (done done' : List A) (a : A) → done' ≡ done ++ a ∷ [] → P (length done) a → ((i : ℕ) (x : A) → slice_get done i ≡ Some x → P i x) → (i : ℕ) (x : A) → slice_get done' i ≡ Some x → P i x
each_next P done done' a pushed one each = subst (λ l. (i : ℕ) (x : _) → slice_get l i ≡ Some x → P i x) (sym pushed) (go P done one each)
  where
    go : {A : Type 0} (P : ℕ → A → Type 0) (done : List A) {a : A} → P (length done) a → ((i : ℕ) (x : A) → slice_get done i ≡ Some x → P i x) → (i : ℕ) (x : A) → slice_get (done ++ a ∷ []) i ≡ Some x → P i x
    go P [] {a} one each zero x at = subst (P 0) (cc (at)) one
    go P [] one each (suc i) x at = absurd (cc (at))
    go P (d ∷ done) one each zero x at = each 0 x at
    go P (d ∷ done) one each (suc i) x at = go (λ n. P (suc n)) done one (λ n y here. each (suc n) y here) i x at

pub left_next : {A B : Type 0} (all behind : List A) (done done' : List B) (b : B) → done' ≡ done ++ b ∷ [] → drop (suc (length done)) all ≡ behind → drop (length done') all ≡ behind
left_next all behind done done' b pushed is =
    let more : length done' ≡ suc (length done) = ap length pushed ∙ (length-append done (b ∷ []) ∙ omega arith) in
    ap (λ n. drop n all) more ∙ is

pub at_place : {A : Type 0} (xs : List A) (i k : ℕ) (x : A) → i ≡ k → i < length xs → x ≡ get_or xs i x → slice_get xs k ≡ Some x
at_place xs i k x place within is = subst (λ n. slice_get xs n ≡ Some x) place (slice_get_read xs (length xs) i x refl within is)

pub read_place : {A : Type 0} (xs : List A) (i k : ℕ) (d : A) → i ≡ k → i < length xs → slice_get xs k ≡ Some (get_or xs i d)
read_place xs i k d place within = subst (λ n. slice_get xs n ≡ Some (get_or xs i d)) place (slice_get-get_or xs i d within)

-- a vector that was lent as a slice
pub lent_back : {A : Type 0} (n : ℕ) (xs rest : List A) → n ≡ length xs → take n (xs ++ rest) ≡ xs
lent_back n xs rest is = ap (λ k. take k (xs ++ rest)) is ∙ take-append_seam xs rest

-- what is told of a vector that was lent as a slice
pub told_back : {A B : Type 0} (P : List A → ℕ → B → Type 0) (done : List B) (n : ℕ) (xs rest : List A) → n ≡ length xs → ((i : ℕ) (b : B) → slice_get done i ≡ Some b → P (take n (xs ++ rest)) i b)
    → (i : ℕ) (b : B) → slice_get done i ≡ Some b → P xs i b
told_back {A} {B} P done n xs rest is told =
    subst (λ l. (i : ℕ) (b : B) → slice_get done i ≡ Some b → P l i b) (ap (λ k. take k (xs ++ rest)) is ∙ take-append_seam xs rest) told
