-- Bytes that were put into an array by stores of fixed widths.
use Rattle.std.proofs.Common.{◌≡◌, ℕ, ◌+◌, ◌-◌, ◌≤◌, List, ◌++◌, length, take, drop, sym, ◌∙◌, ap, ap₂, arith, append_assoc, take-append-drop}
use Rattle.std.proofs.lemmas.List.{length-take-le, take-take}
use Rattle.std.proofs.Math.Seq.{take-append-add}

-- the front of a width that was stored
pub front_put : (old new text wide : List ℕ) (at n len : ℕ) → at ≤ length old → len ≤ n → wide ≡ take n text → take (at + n) new ≡ take at old ++ wide → take (at + len) new ≡ take at old ++ take len text
front_put old new text wide at n len long few is put =
    let count : length (take at old) ≡ at = length-take-le at old long in
    let within : at + len ≤ at + n = omega (arith, few) in
    sym (take-take (at + len) (at + n) new within)
    ∙ ap (λ (l : List ℕ). take (at + len) l) put
    ∙ ap (λ (m : ℕ). take (m + len) (take at old ++ wide)) (sym count)
    ∙ take-append-add (take at old) wide len
    ∙ ap (λ (l : List ℕ). take at old ++ l) (ap (λ (l : List ℕ). take len l) is ∙ take-take len n text few)

-- the first of the bytes and then the last of them
pub ends_put : (old mid new bytes first last : List ℕ) (at n seam : ℕ) → at ≤ length old → length bytes ≤ n + n → first ≡ take n bytes → last ≡ drop (length bytes - n) bytes → seam ≡ at + (length bytes - n)
    → take (at + n) mid ≡ take at old ++ first → take (seam + n) new ≡ take seam mid ++ last → take (seam + n) new ≡ take at old ++ bytes
ends_put old mid new bytes first last at n seam long few first_is last_is is put then =
    let k = length bytes - n in
    let front : take seam mid ≡ take at old ++ take k bytes =
    ap (λ (m : ℕ). take m mid) is ∙ front_put old mid bytes first at n k long (omega (arith, few)) first_is put in
    then ∙ ap₂ (λ (x y : List ℕ). x ++ y) front last_is ∙ append_assoc (take at old) (take k bytes) (drop k bytes) ∙ ap (λ (l : List ℕ). take at old ++ l) (take-append-drop k bytes)
