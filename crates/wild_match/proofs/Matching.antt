-- Matching piece by piece: the leftmost place of each piece between two Many is enough.
use Rattle.std.proofs.Common.{◌≡◌, ℕ, zero, suc, ◌+◌, ◌-◌, ◌≤◌, ◌<◌, List, [], ◌∷◌, ◌++◌, length, take, drop, get_or, refl, sym, ap, subst, ◌∙◌, arith, inl, inr, ⊎_elim, length-drop, take-append-drop}
use Rattle.std.proofs.lemmas.Bool.{cases_lt}
use Rattle.std.proofs.lemmas.List.{drop-drop, length-take-le, drop_more}
use Rattle.std.specs.Prelude.{Some, None, Bool, true, false, if◌then◌else◌}
use Rattle.memchr.specs.Find.{IsFirst}
use Rattle.wild_match.specs.declared.pattern.Item.{Item}
use Rattle.wild_match.specs.declared.pattern.Item.TheVariants.{Byte, One, Many}
use Rattle.wild_match.specs.Matches.{OfSomeRest, Match, IsFixed, Fits, FitsAt, joined}

-- P holds of the bytes from a place on
pub record Rest (P : List ℕ → Type 0) (s : List ℕ) : Type 0 where
  pub at : ℕ
  pub within : at ≤ length s
  pub holds : P (drop at s)

pub rest_here : (P : List ℕ → Type 0) (s : List ℕ) → P s → OfSomeRest P s
rest_here P [] h = h
rest_here P (b ∷ s) h = inl h

pub rest_from : (P : List ℕ → Type 0) (s : List ℕ) (k : ℕ) → k ≤ length s → P (drop k s) → OfSomeRest P s
rest_from P s zero le h = rest_here P s h
rest_from P [] (suc k) le h = absurd (omega arith)
rest_from P (b ∷ s) (suc k) le h = inr (rest_from P s k (omega arith) h)

pub rest_of : (P : List ℕ → Type 0) (s : List ℕ) → OfSomeRest P s → Rest P s
rest_of P [] h = record { at = 0; within = omega arith; holds = h }
rest_of P (b ∷ s) h =
    ⊎_elim (λ p. record { at = 0; within = omega arith; holds = p })
    (λ r. let t = rest_of P s r in record { at = suc t.at; within = omega (arith, t.within); holds = t.holds }) h

-- what holds of some rest of a later part holds of some rest
pub rest_later : (P : List ℕ → Type 0) (s : List ℕ) (n : ℕ) → OfSomeRest P (drop n s) → OfSomeRest P s
rest_later P s zero h = h
rest_later P [] (suc n) h = h
rest_later P (b ∷ s) (suc n) h = inr (rest_later P s n h)

pub rest_earlier : (P : List ℕ → Type 0) (s : List ℕ) (m n : ℕ) → n ≤ m → OfSomeRest P (drop m s) → OfSomeRest P (drop n s)
rest_earlier P s m n le h =
    let e : drop m s ≡ drop (m - n) (drop n s) = ap (λ k. drop k s) (omega arith) ∙ sym (drop-drop (m - n) n s) in
    rest_later P (drop n s) (m - n) (subst (OfSomeRest P) e h)

pub Fits-IsFixed : (p : List Item) (s : List ℕ) → Fits p s → IsFixed p
Fits-IsFixed [] s f = tt
Fits-IsFixed (Byte c ∷ p) [] f = absurd f
Fits-IsFixed (Byte c ∷ p) (b ∷ s) f = Fits-IsFixed p s f.1
Fits-IsFixed (One ∷ p) [] f = absurd f
Fits-IsFixed (One ∷ p) (b ∷ s) f = Fits-IsFixed p s f
Fits-IsFixed (Many ∷ p) s f = f

pub Fits-length : (p : List Item) (s : List ℕ) → Fits p s → length p ≤ length s
Fits-length [] s f = omega arith
Fits-length (Byte c ∷ p) [] f = absurd f
Fits-length (Byte c ∷ p) (b ∷ s) f = omega (arith, Fits-length p s f.1)
Fits-length (One ∷ p) [] f = absurd f
Fits-length (One ∷ p) (b ∷ s) f = omega (arith, Fits-length p s f)
Fits-length (Many ∷ p) s f = absurd f

-- a front that has no Many fits, and what is left matches the rest
pub Match-front : (p q : List Item) (s : List ℕ) → IsFixed p → Match (p ++ q) s → Fits p s × Match q (drop (length p) s)
Match-front [] q s x m = (tt, m)
Match-front (Byte c ∷ p) q [] x m = absurd m
Match-front (Byte c ∷ p) q (b ∷ s) x m = let t = Match-front p q s x m.1 in ((m.0, t.0), t.1)
Match-front (One ∷ p) q [] x m = absurd m
Match-front (One ∷ p) q (b ∷ s) x m = Match-front p q s x m
Match-front (Many ∷ p) q s x m = absurd x

pub front-Match : (p q : List Item) (s : List ℕ) → Fits p s → Match q (drop (length p) s) → Match (p ++ q) s
front-Match [] q s f m = m
front-Match (Byte c ∷ p) q [] f m = absurd f
front-Match (Byte c ∷ p) q (b ∷ s) f m = (f.0, front-Match p q s f.1 m)
front-Match (One ∷ p) q [] f m = absurd f
front-Match (One ∷ p) q (b ∷ s) f m = front-Match p q s f m
front-Match (Many ∷ p) q s f m = absurd f

-- items with no Many match as many bytes as they are
pub Match-fixed : (p : List Item) (s : List ℕ) → IsFixed p → Match p s → Fits p s × (length s ≡ length p)
Match-fixed [] s x m = (tt, ap length m)
Match-fixed (Byte c ∷ p) [] x m = absurd m
Match-fixed (Byte c ∷ p) (b ∷ s) x m = let t = Match-fixed p s x m.1 in ((m.0, t.0), ap suc t.1)
Match-fixed (One ∷ p) [] x m = absurd m
Match-fixed (One ∷ p) (b ∷ s) x m = let t = Match-fixed p s x m in (t.0, ap suc t.1)
Match-fixed (Many ∷ p) s x m = absurd x

pub fixed-Match : (p : List Item) (s : List ℕ) → Fits p s → length s ≡ length p → Match p s
fixed-Match [] [] f e = refl
fixed-Match [] (b ∷ s) f e = absurd (omega arith)
fixed-Match (Byte c ∷ p) [] f e = absurd f
fixed-Match (Byte c ∷ p) (b ∷ s) f e = (f.0, fixed-Match p s f.1 (omega arith))
fixed-Match (One ∷ p) [] f e = absurd f
fixed-Match (One ∷ p) (b ∷ s) f e = fixed-Match p s f (omega arith)
fixed-Match (Many ∷ p) s f e = absurd f

-- after the last Many the items fit at the end
pub Match-last : (p : List Item) (s : List ℕ) → IsFixed p → Match (Many ∷ p) s → (length p ≤ length s) × Fits p (drop (length s - length p) s)
Match-last p s x m =
    let t = rest_of (λ r. Match p r) s m in
    let f = Match-fixed p (drop t.at s) x t.holds in
    let e : length s - t.at ≡ length p = sym (length-drop t.at s) ∙ f.1 in
    let same : t.at ≡ length s - length p = omega (arith, t.within) in
    (omega (arith, t.within), subst (λ k. Fits p (drop k s)) same f.0)

pub last-Match : (p : List Item) (s : List ℕ) → length p ≤ length s → Fits p (drop (length s - length p) s) → Match (Many ∷ p) s
last-Match p s le f =
    rest_from (λ r. Match p r) s (length s - length p) (omega arith)
    (fixed-Match p (drop (length s - length p) s) f (length-drop (length s - length p) s ∙ omega arith))

module _ (p q : List Item) (s : List ℕ) (fixed : IsFixed p) where
  -- a piece between two Many may be taken at its first place
  pub Match-first : (k : ℕ) → IsFirst (FitsAt p s) 0 (length s + 1) (Some k) → Match (Many ∷ p ++ Many ∷ q) s → Match (Many ∷ q) (drop (k + length p) s)
  Match-first k first m =
      let t = rest_of (λ r. Match (p ++ Many ∷ q) r) s m in
      let f = Match-front p (Many ∷ q) (drop t.at s) fixed t.holds in
      let le : k ≤ t.at =
      ⊎_elim (λ (lt : t.at < k). absurd (first.0.before t.at (omega arith) lt (t.within, f.0))) (λ (ge : k ≤ t.at). ge) (cases_lt t.at k) in
      let e : drop (length p) (drop t.at s) ≡ drop (t.at + length p) s = drop-drop (length p) t.at s in
      rest_earlier (λ r. Match q r) s (t.at + length p) (k + length p) (omega arith) (subst (Match (Many ∷ q)) e f.1)

  pub first-Match : (k : ℕ) → FitsAt p s k → Match (Many ∷ q) (drop (k + length p) s) → Match (Many ∷ p ++ Many ∷ q) s
  first-Match k f m =
      rest_from (λ r. Match (p ++ Many ∷ q) r) s k f.0
      (front-Match p (Many ∷ q) (drop k s) f.1 (subst (Match (Many ∷ q)) (sym (drop-drop (length p) k s)) m))

  -- a piece that fits nowhere is not matched
  pub Match-nowhere : IsFirst (FitsAt p s) 0 (length s + 1) None → Match (Many ∷ p ++ Many ∷ q) s → ⊥
  Match-nowhere none m =
      let t = rest_of (λ r. Match (p ++ Many ∷ q) r) s m in
      let f = Match-front p (Many ∷ q) (drop t.at s) fixed t.holds in
      none t.at (omega arith) (omega (arith, t.within)) (t.within, f.0)

-- one more piece before the tail
pub joined-more : (pieces : List (List Item)) (piece tail : List Item) → joined (pieces ++ piece ∷ []) tail ≡ joined pieces (piece ++ Many ∷ tail)
joined-more [] piece tail = refl
joined-more (p ∷ pieces) piece tail = ap (λ r. p ++ Many ∷ r) (joined-more pieces piece tail)

-- the items up to their first Many, and what is behind it
pub split_at_many : (p : List Item) (n : ℕ) → drop n p ≡ Many ∷ drop (n + 1) p → p ≡ take n p ++ Many ∷ drop (n + 1) p
split_at_many p n many = sym (take-append-drop n p) ∙ ap (λ r. take n p ++ r) many

module _ (p : List Item) (s : List ℕ) (n : ℕ) (within : n ≤ length p) (fixed : IsFixed (take n p)) (many : drop n p ≡ Many ∷ drop (n + 1) p) where
  pub after_none : IsFirst (FitsAt (take n p) s) 0 (length s + 1) None → Match (Many ∷ p) s → ⊥
  after_none none m = Match-nowhere (take n p) (drop (n + 1) p) s fixed none (subst (λ q. Match (Many ∷ q) s) (split_at_many p n many) m)

  pub after_some : (k : ℕ) → IsFirst (FitsAt (take n p) s) 0 (length s + 1) (Some k) → (Match (Many ∷ p) s → Match (Many ∷ drop (n + 1) p) (drop (k + n) s)) × (Match (Many ∷ drop (n + 1) p) (drop (k + n) s) → Match (Many ∷ p) s)
  after_some k first =
      let same : length (take n p) ≡ n = length-take-le n p within in
      let P : ℕ → Type 0 = λ i. Match (Many ∷ drop (n + 1) p) (drop (k + i) s) in (
        λ m. subst P same (Match-first (take n p) (drop (n + 1) p) s fixed k first (subst (λ q. Match (Many ∷ q) s) (split_at_many p n many) m)),
        λ m. subst (λ q. Match (Many ∷ q) s) (sym (split_at_many p n many)) (first-Match (take n p) (drop (n + 1) p) s fixed k first.1 (subst P (sym same) m)),
      )

  -- the front of a whole pattern
  pub front_some : (Match p s → Fits (take n p) s × Match (Many ∷ drop (n + 1) p) (drop n s)) × (Fits (take n p) s → Match (Many ∷ drop (n + 1) p) (drop n s) → Match p s)
  front_some =
      let same : length (take n p) ≡ n = length-take-le n p within in
      let P : ℕ → Type 0 = λ i. Match (Many ∷ drop (n + 1) p) (drop i s) in (
        λ m.
            let t = Match-front (take n p) (Many ∷ drop (n + 1) p) s fixed (subst (λ q. Match q s) (split_at_many p n many) m) in
            (t.0, subst P same t.1),
        λ f m. subst (λ q. Match q s) (sym (split_at_many p n many)) (front-Match (take n p) (Many ∷ drop (n + 1) p) s f (subst P (sym same) m)),
      )

-- a pattern that matches fits at the front, up to its first Many
pub Match-start : (p : List Item) (s : List ℕ) (n : ℕ) → IsFixed (take n p) → Match p s → Fits (take n p) s
Match-start p s n fixed m = (Match-front (take n p) (drop n p) s fixed (subst (λ q. Match q s) (sym (take-append-drop n p)) m)).0

-- the pieces from a place on, of which the first is looked for
module _ (pieces : List (List Item)) (tail : List Item) (s : List ℕ) (i : ℕ) (piece : List Item) (here : i < length pieces) (is : piece ≡ get_or pieces i piece) (fixed : IsFixed piece) where
  next_piece : joined (drop i pieces) tail ≡ piece ++ Many ∷ joined (drop (i + 1) pieces) tail
  next_piece = ap (λ ps. joined ps tail) (drop_more pieces i piece here) ∙ ap (λ p. p ++ Many ∷ joined (drop (i + 1) pieces) tail) (sym is)

  pub piece_none : IsFirst (FitsAt piece s) 0 (length s + 1) None → Match (Many ∷ joined (drop i pieces) tail) s → ⊥
  piece_none none m = Match-nowhere piece (joined (drop (i + 1) pieces) tail) s fixed none (subst (λ q. Match (Many ∷ q) s) next_piece m)

  pub piece_some : (k : ℕ) → IsFirst (FitsAt piece s) 0 (length s + 1) (Some k) → (Match (Many ∷ joined (drop i pieces) tail) s → Match (Many ∷ joined (drop (i + 1) pieces) tail) (drop (k + length piece) s)) × (Match (Many ∷ joined (drop (i + 1) pieces) tail) (drop (k + length piece) s) → Match (Many ∷ joined (drop i pieces) tail) s)
  piece_some k first = (
    λ m. Match-first piece (joined (drop (i + 1) pieces) tail) s fixed k first (subst (λ q. Match (Many ∷ q) s) next_piece m),
    λ m. subst (λ q. Match (Many ∷ q) s) (sym next_piece) (first-Match piece (joined (drop (i + 1) pieces) tail) s fixed k first.1 m),
  )

-- a front, and Many with items behind it where there is one
abbrev pub whole : List Item → Bool → List Item → List Item
whole front many behind = if many then front ++ Many ∷ behind else front

pub whole-front : (front : List Item) (many : Bool) (behind : List Item) (s : List ℕ) → IsFixed front → Match (whole front many behind) s → Fits front s
whole-front front true behind s fixed m = (Match-front front (Many ∷ behind) s fixed m).0
whole-front front false behind s fixed m = (Match-fixed front s fixed m).0
