-- Of places that are sorted by file, those of one file.
use Rattle.std.proofs.Common.{◌≡◌, ℕ, zero, suc, ◌<◌, ◌≤◌, List, [], ◌∷◌, Bool, true, false, arith, cond, drop, leb, length, ltb, refl, sym, ap, subst, take}
use Rattle.std.specs.Prelude.{◌==◌}
use Rattle.std.specs.List.{AllWithin, Contains, filter}
use Rattle.std.proofs.lemmas.List.{take-append-drop}
use Rattle.std.proofs.lemmas.List.Elements.{Contains-append_left, Contains-append_right}
use Rattle.std.proofs.lemmas.Bool.{eq-eqb, leb-false, leb-true, ltb-false, ltb-true, ne_eqb}
use Rattle.archive_open.specs.declared.segments.SegmentPlace.{SegmentPlace}
use Rattle.archive_open.specs.OfFile.{is_of}
use Rattle.archive_merge.specs.Merger.{file_at}

below : (a b : ℕ) → ltb a b ≡ true → (a == b) ≡ false
below a b e = ne_eqb a b (λ same. let lt : a < b = ltb-true a b e in omega (arith, same, lt))

above : (a b : ℕ) → leb a b ≡ false → (a == b) ≡ false
above a b e = ne_eqb a b (λ same. let gt : b < a = leb-false a b e in omega (arith, same, gt))

at : (a b : ℕ) → ltb a b ≡ false → leb a b ≡ true → (a == b) ≡ true
at a b not_below not_above =
    let ge : b ≤ a = ltb-false a b not_below in
    let le : a ≤ b = leb-true a b not_above in
    eq-eqb a b (omega (arith, ge, le))

module _ (number : ℕ) where
  abbrev Below : SegmentPlace → Bool → Type 0
  Below y b = ltb (file_at y) number ≡ b

  abbrev UpTo : SegmentPlace → Bool → Type 0
  UpTo y b = leb (file_at y) number ≡ b

  -- none of them is below: the first ones are those of the file
  cut_behind : (xs : List SegmentPlace) (n : ℕ) → AllWithin (λ y. Below y false) xs 0 (length xs) → AllWithin (λ y. UpTo y true) xs 0 n → AllWithin (λ y. UpTo y false) xs n (length xs) → take n xs ≡ filter (is_of number) xs
  cut_behind [] zero low up none = refl
  cut_behind [] (suc n) low up none = refl
  cut_behind (x ∷ xs) zero low up none =
      subst (λ b. [] ≡ cond b (x ∷ filter (is_of number) xs) (filter (is_of number) xs)) (sym (above (file_at x) number (none 0 x (omega arith) (omega arith))))
      (cut_behind xs zero (λ k d le lt. low (suc k) d (omega arith) (omega (arith, lt))) (λ k d le lt. absurd (omega (arith, lt))) (λ k d le lt. none (suc k) d (omega arith) (omega (arith, lt))))
  cut_behind (x ∷ xs) (suc n) low up none =
      subst (λ b. (x ∷ take n xs) ≡ cond b (x ∷ filter (is_of number) xs) (filter (is_of number) xs)) (sym (at (file_at x) number (low 0 x (omega arith) (omega arith)) (up 0 x (omega arith) (omega arith))))
      (ap (λ l. x ∷ l) (cut_behind xs n (λ k d le lt. low (suc k) d (omega arith) (omega (arith, lt))) (λ k d le lt. up (suc k) d (omega arith) (omega (arith, lt))) (λ k d le lt. none (suc k) d (omega (arith, le)) (omega (arith, lt)))))

  pub cut_filter : (xs : List SegmentPlace) (i n : ℕ) → AllWithin (λ y. Below y true) xs 0 i → AllWithin (λ y. Below y false) xs i (length xs)
      → AllWithin (λ y. UpTo y true) (drop i xs) 0 n → AllWithin (λ y. UpTo y false) (drop i xs) n (length (drop i xs)) → i ≤ length xs → take n (drop i xs) ≡ filter (is_of number) xs
  cut_filter xs zero n low high up none within = cut_behind xs n high up none
  cut_filter [] (suc i) n low high up none within = absurd (omega (arith, within))
  cut_filter (x ∷ xs) (suc i) n low high up none within =
      subst (λ b. take n (drop i xs) ≡ cond b (x ∷ filter (is_of number) xs) (filter (is_of number) xs)) (sym (below (file_at x) number (low 0 x (omega arith) (omega arith))))
      (cut_filter xs i n (λ k d le lt. low (suc k) d (omega arith) (omega (arith, lt))) (λ k d le lt. high (suc k) d (omega (arith, le)) (omega (arith, lt))) up none (omega (arith, within)))

-- ---- among the first, and among those behind

pub contains_take : {A : Type 0} (n : ℕ) (xs : List A) (x : A) → Contains (take n xs) x → Contains xs x
contains_take n xs x there = subst (λ l. Contains l x) (take-append-drop n xs) (Contains-append_left (take n xs) (drop n xs) x there)

pub contains_drop : {A : Type 0} (n : ℕ) (xs : List A) (x : A) → Contains (drop n xs) x → Contains xs x
contains_drop n xs x there = subst (λ l. Contains l x) (take-append-drop n xs) (Contains-append_right (take n xs) (drop n xs) x there)
