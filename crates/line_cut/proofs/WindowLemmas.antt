-- What a window holds after a skip and after a read.
use Rattle.std.proofs.Common.{◌≡◌, ◌≤◌, ◌+◌, ◌-◌, sym, ◌∙◌, ap, arith, ℕ, List, ◌++◌, Option, None, Some, take, drop}
use Rattle.std.proofs.Math.Seq.{take-add}
use Rattle.std.proofs.lemmas.List.{append_assoc, drop-drop, take-append-drop}
use Rattle.std.proofs.lemmas.Slice.{between_is}
use Rattle.log_seams.specs.Outside.{Takes}
use Rattle.line_cut.specs.Length.{bytes_left}

-- the part from i to j, where the front up to j is the same
same_part : (old new : List ℕ) (i j : ℕ) → take j new ≡ take j old → take (j - i) (drop i new) ≡ take (j - i) (drop i old)
same_part old new i j e = between_is new i j ∙ (ap (drop i) e ∙ sym (between_is old i j))

pub held-skip : (buffer : List ℕ) (i j k : ℕ) → take (j - (i + k)) (drop (i + k) buffer) ≡ drop k (take (j - i) (drop i buffer))
held-skip buffer i j k = between_is buffer (i + k) j ∙ (sym (drop-drop k i (take j buffer)) ∙ ap (drop k) (sym (between_is buffer i j)))

held-more : (buffer : List ℕ) (i j n : ℕ) → i ≤ j → take (j + n - i) (drop i buffer) ≡ take (j - i) (drop i buffer) ++ take n (drop j buffer)
held-more buffer i j n le =
    let count : j + n - i ≡ (j - i) + n = omega arith in
    let place : i + (j - i) ≡ j = omega arith in
    ap (λ k. take k (drop i buffer)) count
    ∙ (take-add (j - i) n (drop i buffer)
    ∙ ap (λ rest. take (j - i) (drop i buffer) ++ take n rest) (drop-drop (j - i) i buffer ∙ ap (λ k. drop k buffer) place))

-- a read takes no byte away and adds none
pub left-fill : (old new held : List ℕ) (i j n : ℕ) (before after : Option (List ℕ)) → i ≤ j → take j new ≡ take j old → take (j - i) (drop i old) ≡ held → Takes n (drop j new) before after → bytes_left (take (j + n - i) (drop i new)) after ≡ bytes_left held before
left-fill old new held i j n None after le front e t = ap (bytes_left (take (j + n - i) (drop i new))) t
left-fill old new held i j n (Some bytes) after le front e t =
    let now : take (j + n - i) (drop i new) ≡ held ++ take n bytes =
    held-more new i j n le
    ∙ (ap (λ h. h ++ take n (drop j new)) (same_part old new i j front ∙ e)
    ∙ ap (λ got. held ++ got) t.begins) in
    ap (bytes_left (take (j + n - i) (drop i new))) t.gone
    ∙ ap (λ all. Some all) (ap (λ h. h ++ drop n bytes) now
    ∙ (append_assoc held (take n bytes) (drop n bytes) ∙ ap (λ rest. held ++ rest) (take-append-drop n bytes)))
