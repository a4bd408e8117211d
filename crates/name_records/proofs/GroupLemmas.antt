-- Files in groups, from the front.
use Rattle.std.proofs.Common.{◌≡◌, ◌+◌, ◌≤◌, ◌<◌, refl, sym, ap, subst, ◌∙◌, ℕ, zero, suc, List, [], ◌∷◌, ◌++◌, length, map, take, drop, arith, min}
use Rattle.std.specs.Prelude.{All}
use Rattle.std.proofs.lemmas.List.{length-append, length-map, length-take-le, map-append}
use Rattle.std.proofs.lemmas.List.Elements.{All-drop, All-take}
use Rattle.std.proofs.Math.Seq.{drop-append_seam, take-append_seam}
use Rattle.archive_meaning.specs.declared.TheConstants.{MAX_FILES, MAX_NAMES}
use Rattle.archive_meaning.specs.Sums.{AddsNames}
use Rattle.archive_open.specs.declared.files.FileEntry.{FileEntry}
use Rattle.name_records.specs.Named.{IsShort, names_of}

map-dropped : {A B : Type 0} (f : A → B) (k : ℕ) (xs : List A) → map f (drop k xs) ≡ drop k (map f xs)
map-dropped f zero xs = refl
map-dropped f (suc k) [] = refl
map-dropped f (suc k) (x ∷ xs) = map-dropped f k xs

-- some elements behind the first so many
taken_on : {A : Type 0} (xs g r : List A) (k : ℕ) → drop k xs ≡ g ++ r → k ≤ length xs → take (k + length g) xs ≡ take k xs ++ g
taken_on xs g r zero is low = let same : 0 + length g ≡ length g = omega arith in ap (λ n. take n xs) same ∙ (ap (take (length g)) is ∙ take-append_seam g r)
taken_on [] g r (suc k) is low = absurd (omega (arith, low))
taken_on (x ∷ xs) g r (suc k) is low = let step : suc k + length g ≡ suc (k + length g) = omega arith in ap (λ n. take n (x ∷ xs)) step ∙ ap (λ l. x ∷ l) (taken_on xs g r k is (omega (arith, low)))

dropped_on : {A : Type 0} (xs g r : List A) (k : ℕ) → drop k xs ≡ g ++ r → k ≤ length xs → drop (k + length g) xs ≡ r
dropped_on xs g r zero is low = let same : 0 + length g ≡ length g = omega arith in ap (λ n. drop n xs) same ∙ (ap (drop (length g)) is ∙ drop-append_seam g r)
dropped_on [] g r (suc k) is low = absurd (omega (arith, low))
dropped_on (x ∷ xs) g r (suc k) is low = let step : suc k + length g ≡ suc (k + length g) = omega arith in ap (λ n. drop n (x ∷ xs)) step ∙ dropped_on xs g r k is (omega (arith, low))

length_on : {A : Type 0} (xs g r : List A) (k : ℕ) → drop k xs ≡ g ++ r → k ≤ length xs → k + length g ≤ length xs
length_on xs g r zero is low = omega (arith, ap length is, length-append g r)
length_on [] g r (suc k) is low = absurd (omega (arith, low))
length_on (x ∷ xs) g r (suc k) is low = let rest = length_on xs g r k is (omega (arith, low)) in omega (arith, rest)

left_on : {A : Type 0} (xs : List A) (k : ℕ) → k ≤ length xs → k + length (drop k xs) ≡ length xs
left_on xs zero low = omega arith
left_on [] (suc k) low = absurd (omega (arith, low))
left_on (x ∷ xs) (suc k) low = omega (arith, left_on xs k (omega (arith, low)))

-- the first of some, where there are no more
taken_first : {A : Type 0} (xs g r : List A) (n : ℕ) → xs ≡ g ++ r → length g ≡ min n (length xs) → take n xs ≡ g
taken_first xs g r n is size = ap (take n) is ∙ go g r n (size ∙ ap (λ l. min n (length l)) is)
  where
    go : {A : Type 0} (g r : List A) (n : ℕ) → length g ≡ min n (length (g ++ r)) → take n (g ++ r) ≡ g
    go [] [] zero size = refl
    go [] [] (suc n) size = refl
    go [] (x ∷ r) zero size = refl
    go [] (x ∷ r) (suc n) size = absurd (omega (arith, size))
    go (x ∷ g) r zero size = absurd (omega (arith, size))
    go (x ∷ g) r (suc n) size = ap (λ l. x ∷ l) (go g r n (omega (arith, size)))

-- A group of files that comes behind the first k, and what is left behind it.
module _ (files group rest : List FileEntry) (k : ℕ) (low : k ≤ length files) (is : drop k files ≡ group ++ rest) where
  named : drop k (names_of files) ≡ names_of group ++ names_of rest
  named = sym (map-dropped (λ (f : FileEntry). f.name) k files) ∙ (ap names_of is ∙ map-append (λ (f : FileEntry). f.name) group rest)

  names_low : k ≤ length (names_of files)
  names_low = omega (arith, low, length-map files (λ (f : FileEntry). f.name))

  pub group_within : k + length group ≤ length files
  group_within = length_on files group rest k is low

  pub group_left : drop (k + length group) files ≡ rest
  group_left = dropped_on files group rest k is low

  pub group_taken : take (k + length group) (names_of files) ≡ take k (names_of files) ++ names_of group
  group_taken =
      ap (λ n. take (k + n) (names_of files)) (sym (length-map group (λ (f : FileEntry). f.name)))
      ∙ taken_on (names_of files) (names_of group) (names_of rest) k named names_low

  pub group_next : length group ≡ min MAX_NAMES (length (group ++ rest)) → names_of group ≡ take MAX_NAMES (drop k (names_of files))
  group_next size =
      let long : length (drop k (names_of files)) ≡ length (group ++ rest) = ap length (sym (map-dropped (λ (f : FileEntry). f.name) k files)) ∙ (length-map (drop k files) (λ (f : FileEntry). f.name) ∙ ap length is) in
      sym (taken_first (drop k (names_of files)) (names_of group) (names_of rest) MAX_NAMES named
      (length-map group (λ (f : FileEntry). f.name) ∙ (size ∙ ap (λ n. min MAX_NAMES n) (sym long))))

  -- it may be added
  pub group_adds : (first : ℕ) → first + length files ≤ MAX_FILES → All IsShort (names_of files) → length group ≡ min MAX_NAMES (length (group ++ rest)) → 0 < length (group ++ rest) → AddsNames (first + k) (names_of group)
  group_adds first few short size some = record {
    some = omega (arith, length-map group (λ (f : FileEntry). f.name), size, some);
    few = omega (arith, length-map group (λ (f : FileEntry). f.name), size);
    short = subst (All IsShort) (take-append_seam (names_of group) (names_of rest)) (All-take IsShort (length (names_of group)) (names_of group ++ names_of rest) (subst (All IsShort) named (All-drop IsShort k (names_of files) short)));
    all = omega (arith, length-map group (λ (f : FileEntry). f.name), group_within, few);
  }

-- the names of the first files are as many
pub names_counted : (files : List FileEntry) (k : ℕ) → k ≤ length files → length (take k (names_of files)) ≡ k
names_counted files k low = length-take-le k (names_of files) (omega (arith, low, length-map files (λ (f : FileEntry). f.name)))

-- nothing is left behind all
pub none_left : (files : List FileEntry) (k : ℕ) → k ≤ length files → length (drop k files) ≡ 0 → k ≡ length (names_of files)
none_left files k low none = omega (arith, left_on files k low, none, length-map files (λ (f : FileEntry). f.name))
