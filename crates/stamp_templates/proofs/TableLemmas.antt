-- The templates as a table, at the place of a pattern.
use Rattle.std.proofs.Common.{◌≡◌, ℕ, zero, suc, ◌-◌, ◌<◌, ◌≤◌, List, [], ◌∷◌, map, length, get_or, Option, Some, None, Bor, refl, sym, ap, subst, ◌∙◌, arith, length-append}
use Rattle.std.specs.Prelude.{slice_get}
use Rattle.time_patterns.specs.declared.form.Form.{Form}
use Rattle.time_patterns.specs.Digits.{fields_text}
use Rattle.time_patterns.specs.Forms.{fields_of, forms, tail_text}
use Rattle.time_patterns.specs.Steps.{IsSound}
use Rattle.time_patterns.proofs.PlaceLemmas.{IsForm_sound}
use Rattle.time_patterns.proofs.ShapeLemmas.{length-shape, shape_len-bounds}
use Rattle.time_patterns.proofs.TailLemmas.{short_tail}
use Rattle.stamp_templates.specs.Templates.{template_of, zeros_of, zeros_of_some}

some_at : (fs : List Form) (j : ℕ) (d : List ℕ) → j < length fs → get_or (map zeros_of fs) j d ≡ zeros_of_some (slice_get fs j)
some_at [] j d h = absurd (omega (arith, h))
some_at (f ∷ fs) zero d h = refl
some_at (f ∷ fs) (suc j) d h = some_at fs j d (omega (arith, h))

none_at : (fs : List Form) (j : ℕ) → length fs ≤ j → zeros_of_some (slice_get fs j) ≡ []
none_at [] j h = refl
none_at (f ∷ fs) zero h = absurd (omega (arith, h))
none_at (f ∷ fs) (suc j) h = none_at fs j (omega (arith, h))

-- the place of a pattern
pub template_at : (k i : ℕ) (d : List ℕ) → 1 ≤ k → k ≤ 26 → i ≡ k - 1 → get_or (map zeros_of forms) i d ≡ template_of k
template_at zero i d low high e = absurd (omega (arith, low))
template_at (suc j) i d low high e =
    let same : i ≡ j = omega (arith, e) in
    ap (λ x. get_or (map zeros_of forms) x d) same ∙ some_at forms j d (omega (arith, high))

-- no other number has one
pub no_template : (k : ℕ) → 26 < k → template_of k ≡ []
no_template zero h = refl
no_template (suc j) h = none_at forms j (omega (arith, h))

-- ---- the table in the code

now_at : (rs : List (Bor (List ℕ))) (i : ℕ) (d : Bor (List ℕ)) (e : List ℕ) → i < length rs → (get_or rs i d).now ≡ get_or (map (λ (r : Bor (List ℕ)). r.now) rs) i e
now_at [] i d e h = absurd (omega (arith, h))
now_at (r ∷ rs) zero d e h = refl
now_at (r ∷ rs) (suc i) d e h = now_at rs i d e (omega (arith, h))

-- texts behind references, in the order of the forms
pub table_at : (rs : List (Bor (List ℕ))) (k i : ℕ) (d : Bor (List ℕ)) → map (λ (r : Bor (List ℕ)). r.now) rs ≡ map zeros_of forms → length rs ≡ 26
    → 1 ≤ k → k ≤ 26 → i ≡ k - 1 → (get_or rs i d).now ≡ template_of k
table_at rs k i d same long low high e =
    now_at rs i d [] (omega arith) ∙ ap (λ xs. get_or xs i []) same ∙ template_at k i [] low high e

-- ---- how long they are

short_zeros : (form : Form) → IsSound form → length (zeros_of form) ≤ 28
short_zeros form s =
    omega (arith, length-append (fields_text (fields_of form.shape) []) (tail_text form 0), length-shape form.shape [], shape_len-bounds form.shape, short_tail form s 0)

short_some : (j : ℕ) (o : Option Form) → slice_get forms j ≡ o → length (zeros_of_some o) ≤ 28
short_some j None is = omega arith
short_some j (Some form) is =
    let one : suc j - 1 ≡ j = omega arith in
    short_zeros form (IsForm_sound (suc j) form (omega arith, ap (λ i. slice_get forms i) one ∙ is))

pub short_template : (k : ℕ) → length (template_of k) ≤ 28
short_template zero = omega arith
short_template (suc j) = short_some j (slice_get forms j) refl

pub short_at : (rs : List (Bor (List ℕ))) (k i : ℕ) (d : Bor (List ℕ)) → map (λ (r : Bor (List ℕ)). r.now) rs ≡ map zeros_of forms → length rs ≡ 26
    → 1 ≤ k → k ≤ 26 → i ≡ k - 1 → length (get_or rs i d).now ≤ 28
short_at rs k i d same long low high e = subst (λ (x : List ℕ). length x ≤ 28) (sym (table_at rs k i d same long low high e)) (short_template k)
