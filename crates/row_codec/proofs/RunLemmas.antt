-- Bytes that were appended by copies of a fixed width.
use Rattle.std.proofs.Common.{◌≡◌, ℕ, ◌+◌, ◌-◌, ◌≤◌, List, ◌++◌, length, take, drop, sym, ◌∙◌, ap, ap₂, arith, append_assoc, take-append-drop}
use Rattle.std.specs.Prelude.{OnOk, Result, Ok, Err, is_ok, if◌then◌else◌}
use mathlib.Core.List.{IsPrefix}
use Rattle.std.proofs.lemmas.List.{take-take}
use Rattle.std.proofs.Math.Seq.{take-append-add}

-- what is behind the front of a width was taken back
pub kept_front : (old wide mid new : List ℕ) (end len : ℕ) → end ≡ length old + len → mid ≡ old ++ wide → new ≡ take end mid → new ≡ old ++ take len wide
kept_front old wide mid new end len at put cut =
    cut ∙ ap₂ (λ (n : ℕ) (l : List ℕ). take n l) at put ∙ take-append-add old wide len

-- the front of the front of a text
pub front_of_front : (old text wide new : List ℕ) (n len : ℕ) → len ≤ n → wide ≡ take n text → new ≡ old ++ take len wide → new ≡ old ++ take len text
front_of_front old text wide new n len few is put =
    put ∙ ap (λ l. old ++ l) (ap (take len) is ∙ take-take len n text few)

-- the first of the bytes, up to where the last of them begin
pub first_end : (old bytes first mid cut : List ℕ) (n seam : ℕ) → length bytes ≤ n + n → first ≡ take n bytes
    → seam ≡ length old + (length bytes - n) → mid ≡ old ++ first → cut ≡ take seam mid → cut ≡ old ++ take (length bytes - n) bytes
first_end old bytes first mid cut n seam few is at put kept =
    let k = length bytes - n in
    front_of_front old bytes first cut n k (omega (arith, few)) is (kept_front old first mid cut seam k at put kept)

-- the last of the bytes behind the first of them, where there was memory for those
pub put_both : {E : Type 0} (answer : Result (Unit {0}) E) (old bytes cut last new : List ℕ) (k : ℕ) → cut ≡ old ++ take k bytes → last ≡ drop k bytes
    → new ≡ (if is_ok answer then cut ++ last else cut) → OnOk answer (new ≡ old ++ bytes) × IsPrefix old new
put_both (Ok done) old bytes cut last new k front back put =
    let whole = put ∙ ap₂ (λ (x y : List ℕ). x ++ y) front back ∙ append_assoc old (take k bytes) (drop k bytes) ∙ ap (λ l. old ++ l) (take-append-drop k bytes) in (whole, (bytes, sym whole))
put_both (Err error) old bytes cut last new k front back put = (tt, (take k bytes, sym (put ∙ front)))
