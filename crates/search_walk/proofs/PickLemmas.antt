-- Those of a list that have something.
use Rattle.std.proofs.Common.{◌≡◌, inl, inr, ◌≤◌, List, [], ◌∷◌, ◌++◌, length, refl, sym, ◌∙◌, ap, arith}
use Rattle.printed_lines.specs.Lines.{Picks}

pub record Split {A : Type 0} (P : A → Type 0) (xs ys c : List A) : Type 0 where
  pub a : List A
  pub b : List A
  pub first : Picks P xs a
  pub second : Picks P ys b
  pub both : c ≡ a ++ b

pub picks_split : {A : Type 0} (P : A → Type 0) (xs ys c : List A) → Picks P (xs ++ ys) c → Split P xs ys c
picks_split P [] ys c all = record { a = []; b = c; first = refl; second = all; both = refl }
picks_split {A} P (x ∷ xs) ys c (inl p) =
    let r = picks_split P xs ys p.0 p.2 in
    record { a = x ∷ r.a; b = r.b; first = inl (r.a, p.1, r.first, refl); second = r.second; both = p.3 ∙ ap (λ (l : List A). x ∷ l) r.both }
picks_split P (x ∷ xs) ys c (inr p) =
    let r = picks_split P xs ys c p.1 in
    record { a = r.a; b = r.b; first = inr (p.0, r.first); second = r.second; both = r.both }

pub picks_short : {A : Type 0} (P : A → Type 0) (xs ys : List A) → Picks P xs ys → length ys ≤ length xs
picks_short P [] ys is = omega (arith, ap length is)
picks_short P (x ∷ xs) ys (inl p) = omega (arith, picks_short P xs p.0 p.2, ap length p.3)
picks_short P (x ∷ xs) ys (inr p) = omega (arith, picks_short P xs ys p.1)

pub picks_once : {A : Type 0} (P : A → Type 0) (xs a b : List A) → Picks P xs a → Picks P xs b → a ≡ b
picks_once P [] a b one two = one ∙ sym two
picks_once {A} P (x ∷ xs) a b (inl p) (inl q) = p.3 ∙ ap (λ (l : List A). x ∷ l) (picks_once P xs p.0 q.0 p.2 q.2) ∙ sym q.3
picks_once P (x ∷ xs) a b (inl p) (inr q) = absurd (q.0 p.1)
picks_once P (x ∷ xs) a b (inr p) (inl q) = absurd (p.0 q.1)
picks_once P (x ∷ xs) a b (inr p) (inr q) = picks_once P xs a b p.1 q.1
