-- A mask that is computed lane by lane is held to a test of bytes at each of the 256 bytes, by computing.
use Rattle.std.proofs.Common.{◌≡◌, ℕ, ◌%◌, ◌^◌, ◌<◌, Bool, true, false, cond, eqb, List, [], ◌∷◌, map, length, get_or, refl, ap, ◌∙◌, arith, w8, Fits, replicate}
use Rattle.std.proofs.lemmas.Simd.{map-map, Each1-get_or, zip2_of_maps, splat_is_map}
use Rattle.std.proofs.lemmas.List.{get_or-map}
use Rattle.std.proofs.lemmas.Bool.{agree_below, agree_below_at}
use lib.Lanes.{zip2, mask_l, top, Each1}
use Rattle.token_rules.specs.StepsOfWindows.{test}
use Rattle.token_rules.proofs.BitLemmas.{test-mod, test-mask_l}

pub as_map : (v : List ℕ) → v ≡ map (λ x. x) v
as_map [] = refl
as_map (x ∷ xs) = ap (λ r. x ∷ r) (as_map xs)

-- a lane by lane operation of two vectors
pub lanes : (h : ℕ → ℕ → ℕ) (f g : ℕ → ℕ) (v : List ℕ) {a b : List ℕ} → a ≡ map f v → b ≡ map g v → zip2 h a b ≡ map (λ x. h (f x) (g x)) v
lanes h f g v p q = zip2_of_maps h f g v p q

-- the comparison of two lanes
abbrev pub hit : ℕ → ℕ → ℕ
hit a b = cond (eqb a b) 255 0

-- the same with a vector that has this value in each lane
pub splat : (y : ℕ) (v : List ℕ) → length v ≡ 64 → replicate 64 y ≡ map (λ _. y) v
splat y v long = splat_is_map v 64 y long

pub classified : (f : ℕ → ℕ) (p : ℕ → Bool) (v z : List ℕ) → (length v ≡ 64) × Each1 (Fits w8) v → z ≡ map f v → agree_below (λ x. top 7 (f x)) p 256 ≡ true
    → (i : ℕ) → i < 64 → test (mask_l (map (top 7) z) % 2 ^ 64) i ≡ p (get_or v i 0)
classified f p v z fits e all i h =
    let within : i < length v = omega (arith, fits.0) in
    test-mod _ i h ∙ test-mask_l (map (top 7) z) i ∙ ap (λ l. get_or l i false) (ap (map (top 7)) e ∙ map-map (top 7) f v)
    ∙ get_or-map (λ x. top 7 (f x)) v i 0 false within ∙ agree_below_at (λ x. top 7 (f x)) p 256 (get_or v i 0) all (Each1-get_or (Fits w8) v i 0 within fits.1).fits
