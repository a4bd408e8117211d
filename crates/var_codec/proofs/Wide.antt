-- Texts that were copied by a fixed width.
use Rattle.std.proofs.Common.{◌≡◌, refl, ℕ, suc, ◌+◌, ◌-◌, ◌≤◌, List, ◌∷◌, ◌++◌, length, take, drop, ◌∙◌, ap, ap₂, arith}
use Rattle.std.proofs.lemmas.List.{take-take, take_at}
use Rattle.std.proofs.Math.Seq.{take-append-add}

-- a sign with digits behind it stands at the front
pub sign_front : (sign : ℕ) (digits rest all : List ℕ) (n : ℕ) → all ≡ sign ∷ (digits ++ rest) → n ≡ suc (length digits) → take n all ≡ sign ∷ digits
sign_front sign digits rest all n is long =
    ap₂ (λ (k : ℕ) (l : List ℕ). take k l) long is ∙ ap (λ l. sign ∷ l) (take_at digits rest (length digits) refl)

-- what is behind the end of a number was taken back
pub kept_front : (old text wide mid new : List ℕ) (start end : ℕ) → wide ≡ take 24 (take (44 - start) (drop start text)) → start ≤ 20 → end ≡ length old + (20 - start) → mid ≡ old ++ wide
    → new ≡ take end mid → new ≡ old ++ take (20 - start) (drop start text)
kept_front old text wide mid new start end is low at put kept =
    let k = 20 - start in
    kept ∙ ap₂ (λ (n : ℕ) (l : List ℕ). take n l) at put ∙ take-append-add old wide k
    ∙ ap (λ l. old ++ l) (ap (take k) is ∙ take-take k 24 (take (44 - start) (drop start text)) (omega arith) ∙ take-take k (44 - start) (drop start text) (omega (arith, low)))
