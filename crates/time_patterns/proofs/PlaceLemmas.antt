-- The form at a place of the list of forms.
use Rattle.std.proofs.Common.{◌≡◌, ℕ, zero, suc, ◌-◌, ◌<◌, ◌≤◌, inl, inr, List, [], ◌∷◌, ◌++◌, length, get_or, Some, refl, ap, sym, ◌∙◌, arith}
use Rattle.std.specs.Prelude.{slice_get}
use Rattle.std.specs.List.{AllByRecursion}
use Rattle.std.proofs.lemmas.Option.{slice_get-get_or}
use Rattle.time_patterns.specs.declared.form.Form.{Form}
use Rattle.time_patterns.specs.Forms.{forms, six_forms, ten_forms, IsForm}
use Rattle.time_patterns.specs.Steps.{HasTick, IsSound}

-- what holds of each element holds of the one at a place
pub AllByRecursion-slice_get : {X : Type 0} (P : X → Type 0) (xs : List X) (i : ℕ) (x : X) → slice_get xs i ≡ Some x → AllByRecursion P xs → P x
AllByRecursion-slice_get P [] i x e h = cc
AllByRecursion-slice_get P (y ∷ xs) zero x e h = let same : y ≡ x = cc in rw same at h.0
AllByRecursion-slice_get P (y ∷ xs) (suc i) x e h = AllByRecursion-slice_get P xs i x e h.1

pub AllByRecursion-append : {X : Type 0} (P : X → Type 0) (xs ys : List X) → AllByRecursion P xs → AllByRecursion P ys → AllByRecursion P (xs ++ ys)
AllByRecursion-append P [] ys h j = j
AllByRecursion-append P (x ∷ xs) ys h j = (h.0, AllByRecursion-append P xs ys h.1 j)

-- an element is within the list
pub slice_get-within : {X : Type 0} (xs : List X) (i : ℕ) (x : X) → slice_get xs i ≡ Some x → i < length xs
slice_get-within [] i x e = cc
slice_get-within (y ∷ xs) zero x e = omega arith
slice_get-within (y ∷ xs) (suc i) x e = omega (arith, slice_get-within xs i x e)

-- there are twenty-six forms
pub IsForm_bound : (k : ℕ) (form : Form) → IsForm k form → (1 ≤ k) × (k ≤ 26)
IsForm_bound k form h = (h.0, omega (arith, slice_get-within forms (k - 1) form h.1))

-- one for each number
pub IsForm_same : (k : ℕ) (form other : Form) → IsForm k form → IsForm k other → form ≡ other
IsForm_same k form other h j =
    let same : Some form ≡ Some other = sym h.1 ∙ j.1 in cc

-- and one at each place
pub form_at : (k i : ℕ) (d : Form) → 1 ≤ k → k ≤ 26 → i ≡ k - 1 → IsForm k (get_or forms i d)
form_at k i d low high e =
    let within : k - 1 < length forms = omega arith in
    (low, slice_get-get_or forms (k - 1) d within ∙ ap (λ j. Some (get_or forms j d)) (sym e))

-- what holds of the forms of both ticks and of the six more holds of all
pub in_all : (P : Form → Type 0) → AllByRecursion P (ten_forms 1000) → AllByRecursion P six_forms → AllByRecursion P (ten_forms 1) → AllByRecursion P forms
in_all P a b c = AllByRecursion-append P (ten_forms 1000) (six_forms ++ ten_forms 1) a (AllByRecursion-append P six_forms (ten_forms 1) b c)

ten_sound : (tick : ℕ) → HasTick tick 1000 → HasTick tick 1_000_000 → AllByRecursion IsSound (ten_forms tick)
ten_sound tick ms s = (
  record { unit = inr (inl (refl, refl)); tick = ms },
  (
    record { unit = inr (inl (refl, refl)); tick = ms },
    (
      record { unit = inr (inl (refl, refl)); tick = ms },
      (
        record { unit = inr (inl (refl, refl)); tick = ms },
        (
          record { unit = inr (inl (refl, refl)); tick = ms },
          (
            record { unit = inl (refl, refl); tick = s },
            (
              record { unit = inl (refl, refl); tick = s },
              (
                record { unit = inl (refl, refl); tick = s },
                (record { unit = inl (refl, refl); tick = s }, (record { unit = inl (refl, refl); tick = s }, tt)),
              ),
            ),
          ),
        ),
      ),
    ),
  ),
)

six_sound : AllByRecursion IsSound six_forms
six_sound = (
  record { unit = inr (inr (refl, refl)); tick = inl refl },
  (
    record { unit = inr (inr (refl, refl)); tick = inl refl },
    (
      record { unit = inr (inr (refl, refl)); tick = inl refl },
      (
        record { unit = inr (inr (refl, refl)); tick = inl refl },
        (record { unit = inr (inr (refl, refl)); tick = inl refl }, (record { unit = inr (inr (refl, refl)); tick = inl refl }, tt)),
      ),
    ),
  ),
)

-- all of them have fractions of their units, and count ticks
pub IsForm_sound : (k : ℕ) (form : Form) → IsForm k form → IsSound form
IsForm_sound k form h =
    AllByRecursion-slice_get IsSound forms (k - 1) form h.1
    (in_all IsSound (ten_sound 1000 (inr (refl, refl)) (inr (refl, refl))) six_sound (ten_sound 1 (inl refl) (inl refl)))
