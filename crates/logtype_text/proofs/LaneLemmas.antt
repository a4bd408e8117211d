-- A mask of lanes that is held to a test of bytes, and the constants that it shows.
use Rattle.std.proofs.Common.{◌≡◌, ℕ, zero, suc, ◌+◌, ◌%◌, ◌^◌, ◌<◌, ◌≤◌, Bool, true, false, List, map, length, get_or, take, ap, ◌∙◌, subst, arith, w8, Fits}
use Rattle.std.specs.Prelude.{All}
use Rattle.std.proofs.lemmas.Simd.{map-map, Each1-get_or}
use Rattle.std.proofs.lemmas.List.{get_or-map}
use Rattle.std.proofs.lemmas.List.Elements.{All-more}
use Rattle.std.proofs.lemmas.Bool.{agree_below, agree_below_at}
use lib.Lanes.{mask_l, top, Each1}
use Rattle.token_rules.specs.StepsOfWindows.{test}
use Rattle.token_rules.proofs.BitLemmas.{test-mod, test-mask_l}

-- a mask that is computed lane by lane is held to a test of bytes at each of the 256 bytes, by computing
pub classified : (f : ℕ → ℕ) (p : ℕ → Bool) (v z : List ℕ) → (length v ≡ 16) × Each1 (Fits w8) v → z ≡ map f v → agree_below (λ x. top 7 (f x)) p 256 ≡ true
    → (i : ℕ) → i < 16 → test (mask_l (map (top 7) z) % 2 ^ 64) i ≡ p (get_or v i 0)
classified f p v z fits e all i h =
    let within : i < length v = omega (arith, fits.0) in
    test-mod _ i (omega arith) ∙ test-mask_l (map (top 7) z) i ∙ ap (λ l. get_or l i false) (ap (map (top 7)) e ∙ map-map (top 7) f v)
    ∙ get_or-map (λ x. top 7 (f x)) v i 0 false within ∙ agree_below_at (λ x. top 7 (f x)) p 256 (get_or v i 0) all (Each1-get_or (Fits w8) v i 0 within fits.1).fits

-- what holds of a front of a text, and of so many bytes behind it
pub front_wider : (P : ℕ → Type 0) (text : List ℕ) (end n : ℕ) → end + n ≤ length text → All P (take end text) → ((k : ℕ) → k < n → P (get_or text (end + k) 0)) → All P (take (end + n) text)
front_wider P text end zero within so_far more = let same : end ≡ end + 0 = omega arith in subst (λ e. All P (take e text)) same so_far
front_wider P text end (suc n) within so_far more =
    let next : end + n + 1 ≡ end + suc n = omega arith in
    subst (λ e. All P (take e text)) next
    (All-more P text (end + n) 0 (omega arith) (front_wider P text end n (omega arith) so_far (λ k l. more k (omega arith))) (more n (omega arith)))
