-- One item further, for the loops over items.
use Rattle.std.proofs.Common.{◌≡◌, ◌≢◌, ℕ, zero, suc, ◌+◌, ◌≤◌, ◌<◌, List, [], ◌∷◌, ◌++◌, length, take, drop, map, get_or, set, refl, sym, ap, subst, arith}
use Rattle.std.proofs.lemmas.List.{drop_more, take_more, take_more_set, map-append, length-take-le}
use Rattle.wild_match.specs.declared.pattern.Item.{Item}
use Rattle.wild_match.specs.declared.pattern.Item.TheVariants.{Byte, One, Many}
use Rattle.wild_match.specs.Matches.{IsFixed, Fits}
use Rattle.wild_match.specs.Runs.{RunAt}

fixed_push : (p : List Item) (x : Item) → IsFixed p → x ≢ Many → IsFixed (p ++ x ∷ [])
fixed_push [] (Byte c) f n = tt
fixed_push [] One f n = tt
fixed_push [] Many f n = absurd (n refl)
fixed_push (Byte c ∷ p) x f n = fixed_push p x f n
fixed_push (One ∷ p) x f n = fixed_push p x f n
fixed_push (Many ∷ p) x f n = f

-- one more item that is not Many
pub fixed_more : (p : List Item) (i : ℕ) (d : Item) → i < length p → get_or p i d ≢ Many → IsFixed (take i p) → IsFixed (take (i + 1) p)
fixed_more p i d lt n f = rw (take_more p i d lt) (fixed_push (take i p) (get_or p i d) f n)

-- items before the first Many
pub fixed_before : (p : List Item) (n : ℕ) (d : Item) → n ≤ length p → ((k : ℕ) → k < n → get_or p k d ≢ Many) → IsFixed (take n p)
fixed_before p zero d le before = tt
fixed_before p (suc n) d le before =
    let e : n + 1 ≡ suc n = omega arith in
    let rest = fixed_before p n d (omega arith) (λ k lt. before k (omega arith)) in
    subst (λ k. IsFixed (take k p)) e (fixed_more p n d (omega arith) (before n (omega arith)) rest)

-- where the items from a place on fit the bytes from there on decides
abbrev pub FitsFrom : List Item → List ℕ → ℕ → Type 0
FitsFrom p s i = Fits (drop i p) (drop i s)

module _ (p : List Item) (s : List ℕ) (i : ℕ) (d : Item) (here : i < length p) (there : i < length s) where
  fits_same : (x : Item) → get_or p i d ≡ x → Fits (drop i p) (drop i s) ≡ Fits (x ∷ drop (i + 1) p) (get_or s i 0 ∷ drop (i + 1) s)
  fits_same x e = rw (drop_more p i d here, drop_more s i 0 there, e) refl

  pub fits_byte : (c : ℕ) → get_or p i d ≡ Byte c → get_or s i 0 ≡ c → (FitsFrom p s (i + 1) → FitsFrom p s i) × (FitsFrom p s i → FitsFrom p s (i + 1))
  fits_byte c e b = (
    λ f. subst (λ t. t) (sym (fits_same (Byte c) e)) (b, f),
    λ f. (subst (λ t. t) (fits_same (Byte c) e) f).1,
  )

  pub fits_other_byte : (c : ℕ) → get_or p i d ≡ Byte c → get_or s i 0 ≢ c → FitsFrom p s i → ⊥
  fits_other_byte c e b f = b (subst (λ t. t) (fits_same (Byte c) e) f).0

  pub fits_one : get_or p i d ≡ One → (FitsFrom p s (i + 1) → FitsFrom p s i) × (FitsFrom p s i → FitsFrom p s (i + 1))
  fits_one e = (λ f. subst (λ t. t) (sym (fits_same One e)) f, λ f. subst (λ t. t) (fits_same One e) f)

  pub fits_many : get_or p i d ≡ Many → FitsFrom p s i → ⊥
  fits_many e f = subst (λ t. t) (fits_same Many e) f

-- the first items are these bytes
abbrev pub Copied : List Item → List ℕ → ℕ → Type 0
Copied p room i = take i p ≡ map (λ b. Byte b) (take i room)

pub copied_more : (p : List Item) (room : List ℕ) (i b : ℕ) (d : Item) → i < length p → i < length room → get_or p i d ≡ Byte b → Copied p room i → Copied p (set room i b) (i + 1)
copied_more p room i b d here there e h =
    rw (take_more p i d here, e, take_more_set room i b there, map-append (λ (c : ℕ). Byte c) (take i room) (b ∷ [])) (ap (λ xs. xs ++ Byte b ∷ []) h)

pub copied_run : (p : List Item) (room : List ℕ) (n : ℕ) → n ≤ length room → Copied p room n → RunAt p (take n room) 0
copied_run p room n le h = rw (length-take-le n room le) h
