-- What came of some first files, and of one more.
use Rattle.std.proofs.Common.{◌≡◌, ◌+◌, ◌<◌, ◌≤◌, sym, ap, ap₂, refl, ◌∙◌, ℕ, suc, Bool, true, false, List, [], ◌∷◌, ◌++◌, ◌==◌, ◌||◌, if◌then◌else◌, map, take, get_or, length, Option, arith}
use Rattle.std.specs.List.{flat_map}
use Rattle.std.proofs.Math.Seq.{take-suc}
use Rattle.std.proofs.lemmas.List.Concat.{flat_map-append}
use Rattle.std.proofs.lemmas.List.{append-nil}
use Rattle.command_refusals.specs.Refusal.{Says}
use Rattle.command_answers.specs.Taken.{gravest, has}
use Rattle.file_outcomes.specs.Taken.{graver}
use Rattle.command_refusals.proofs.RefusalLemmas.{Says-joined, Says-same}

take_next : {A : Type 0} (xs : List A) (i : ℕ) (d : A) → i < length xs → take (i + 1) xs ≡ take i xs ++ get_or xs i d ∷ []
take_next xs i d within =
    let next : i + 1 ≡ suc i = omega arith in
    ap (λ n. take n xs) next ∙ take-suc xs i d within

map-more : {A B : Type 0} (f : A → B) (xs : List A) (x : A) → map f (xs ++ x ∷ []) ≡ map f xs ++ f x ∷ []
map-more f [] x = refl
map-more f (y ∷ xs) x = ap (λ ys. f y ∷ ys) (map-more f xs x)

or_assoc : (a b c : Bool) → (a || (b || c)) ≡ ((a || b) || c)
or_assoc true b c = refl
or_assoc false b c = refl

has-more : (n : ℕ) (xs : List ℕ) (x : ℕ) → has n (xs ++ x ∷ []) ≡ (has n xs || (x == n || false))
has-more n [] x = refl
has-more n (y ∷ xs) x = ap (λ b. y == n || b) (has-more n xs x) ∙ or_assoc (y == n) (has n xs) (x == n || false)

-- the choice of the gravest by three tests
abbrev choice : Bool → Bool → Bool → ℕ
choice a b c = if a then 5 else (if b then 9 else (if c then 4 else 0))

choices : (a b c p q r : Bool) → choice (a || (p || false)) (b || (q || false)) (c || (r || false)) ≡ choice ((choice a b c == 5) || (p || false)) ((choice a b c == 9) || (q || false)) ((choice a b c == 4) || (r || false))
choices true b c p q r = refl
choices false true c true q r = refl
choices false true c false q r = refl
choices false false true p q r = refl
choices false false false p q r = refl

gravest-more : (xs : List ℕ) (x : ℕ) → gravest (xs ++ x ∷ []) ≡ graver (gravest xs) x
gravest-more xs x =
    let a = has-more 5 xs x in let b = has-more 9 xs x in let c = has-more 4 xs x in
    (λ i. choice (a i) (b i) (c i)) ∙ choices (has 5 xs) (has 9 xs) (has 4 xs) (x == 5) (x == 9) (x == 4)

module _ {A : Type 0} (status : A → ℕ) (text : A → List ℕ) where
  pub gravest_next : (files : List A) (i : ℕ) (d : A) (before now one : ℕ) → i < length files → before ≡ gravest (map status (take i files)) → one ≡ status (get_or files i d) → now ≡ graver before one → now ≡ gravest (map status (take (i + 1) files))
  gravest_next files i d before now one within was here step =
      step ∙ (ap₂ (λ a b. graver a b) was here ∙ (sym (gravest-more (map status (take i files)) (status (get_or files i d))) ∙ ap gravest (sym (map-more status (take i files) (get_or files i d)) ∙ ap (λ fs. map status fs) (sym (take_next files i d within)))))

  pub said_next : (old mid new : Option (List ℕ)) (a b c : ℕ) (files : List A) (i : ℕ) (d : A) → i < length files → a ≤ b → b ≤ c → Says old mid a b (flat_map text (take i files)) → Says mid new b c (text (get_or files i d)) → Says old new a c (flat_map text (take (i + 1) files))
  said_next old mid new a b c files i d within low high before here =
      let next : flat_map text (take i files) ++ text (get_or files i d) ≡ flat_map text (take (i + 1) files) =
      ap (λ t. flat_map text (take i files) ++ t) (sym (append-nil (text (get_or files i d)))) ∙ (sym (flat_map-append text (take i files) (get_or files i d ∷ [])) ∙ ap (λ fs. flat_map text fs) (sym (take_next files i d within))) in
      Says-same old new a c _ _ next (Says-joined old mid new a b c _ _ low high before here)
