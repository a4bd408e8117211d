-- Lines one behind the other, and those of a list that have something.
use Rattle.std.proofs.Common.{◌≡◌, inl, inr, ℕ, ◌+◌, List, [], ◌∷◌, ◌++◌, length, sym, ◌∙◌, ap, subst, arith}
use Rattle.std.specs.Fmt.{decimal}
use Rattle.std.proofs.lemmas.List.{append_assoc}
use Rattle.std.proofs.lemmas.List.Concat.{flat_map-append}
use Rattle.printed_lines.specs.Lines.{Picks, Placed, label_of, line_of, lines_of, numbered, placed}

pub picks_append : {A : Type 0} (P : A → Type 0) (xs ys a b : List A) → Picks P xs a → Picks P ys b → Picks P (xs ++ ys) (a ++ b)
picks_append P [] ys a b one two = subst (λ l. Picks P ys (l ++ b)) (sym one) two
picks_append {A} P (x ∷ xs) ys a b (inl p) two = inl (p.0 ++ b, p.1, picks_append P xs ys p.0 b p.2 two, ap (λ (l : List A). l ++ b) p.3)
picks_append P (x ∷ xs) ys a b (inr p) two = inr (p.0, picks_append P xs ys a b p.1 two)

pub numbered_append : (name : List ℕ) (k : ℕ) (ms ns : List (List ℕ)) (n : ℕ) → n ≡ k + length ms → numbered name k (ms ++ ns) ≡ numbered name k ms ++ numbered name n ns
numbered_append name k [] ns n is = ap (λ (j : ℕ). numbered name j ns) (sym (is ∙ omega arith))
numbered_append name k (m ∷ ms) ns n is = ap (λ (l : List Placed). placed name k m ∷ l) (numbered_append name (k + 1) ms ns n (omega (arith, is)))

pub lines_joined : (xs ys : List Placed) → lines_of (xs ++ ys) ≡ lines_of xs ++ lines_of ys
lines_joined xs ys = flat_map-append line_of xs ys

-- a message behind its label, and a newline
pub line_written : (name : List ℕ) (number : ℕ) (message g : List ℕ) → ((g ++ label_of name number) ++ message) ++ 10 ∷ [] ≡ g ++ line_of (placed name number message)
line_written name number message g =
    append_assoc (g ++ label_of name number) message (10 ∷ []) ∙ append_assoc g (label_of name number) (message ++ 10 ∷ [])
    ∙ ap (λ (l : List ℕ). g ++ l) (append_assoc name (58 ∷ (decimal number ++ 58 ∷ [])) (message ++ 10 ∷ [])
    ∙ ap (λ (l : List ℕ). name ++ (58 ∷ l)) (append_assoc (decimal number) (58 ∷ []) (message ++ 10 ∷ [])))
