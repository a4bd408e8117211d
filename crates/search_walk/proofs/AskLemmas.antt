-- What one pass over the words tells.
use Rattle.std.proofs.Common.{◌≡◌, ℕ, zero, suc, ◌+◌, ◌<◌, ◌≤◌, Bool, true, List, [], ◌∷◌, ◌++◌, length, take, drop, map, get_or, Option, Some, None, refl, sym, ◌∙◌, ap, subst, arith, length-append, below_more}
use Rattle.std.specs.Prelude.{slice_get, slice_index_or}
use Rattle.std.specs.List.{Contains}
use Rattle.std.proofs.lemmas.List.{get_or_append_left, get_or_default, length-map, map-append}
use Rattle.std.proofs.lemmas.Option.{slice_get_within}
use Rattle.std.proofs.Math.Seq.{drop-cons, take-add}
use Rattle.subquery_filter.specs.Found.{AreNumbers, HaveAll, IsNumber}
use Rattle.word_places.specs.declared.place.WordsPlace.{WordsPlace}
use Rattle.word_places.specs.declared.needle.Fit.TheVariants.{Within, Whole}
use Rattle.word_places.specs.Holders.{Holders}
use Rattle.word_places.specs.Laws.{HoldersHave}
use Rattle.word_places.specs.Places.{OfWords}
use Rattle.search_walk.specs.Told.{AreFound, AreReadOff, needles_for, whole_needle, within_needle}

-- ---- what holds of words

pub of_words_map : (told : Option (List ℕ)) (places : List WordsPlace) (P Q : List (List ℕ) → Type 0) → ((words : List (List ℕ)) → P words → Q words) → OfWords told places P → OfWords told places Q
of_words_map None places P Q step of = tt
of_words_map (Some bytes) places P Q step of = λ words are. step words (of words are)

pub of_words_all : (told : Option (List ℕ)) (places : List WordsPlace) (Q : List (List ℕ) → Type 0) → ((words : List (List ℕ)) → Q words) → OfWords told places Q
of_words_all None places Q each = tt
of_words_all (Some bytes) places Q each = λ words are. each words

-- ---- the needles

at_left : {A : Type 0} (xs ys : List A) (k : ℕ) (x : A) → slice_get xs k ≡ Some x → slice_get (xs ++ ys) k ≡ Some x
at_left [] ys k x is = absurd (cc (is))
at_left (z ∷ xs) ys zero x is = is
at_left (z ∷ xs) ys (suc k) x is = at_left xs ys k x is

at_right : {A : Type 0} (xs ys : List A) (k : ℕ) → slice_get (xs ++ ys) (length xs + k) ≡ slice_get ys k
at_right [] ys k = let e : 0 + k ≡ k = omega arith in ap (λ (n : ℕ). slice_get ys n) e
at_right (z ∷ xs) ys k =
    let e : length (z ∷ xs) + k ≡ suc (length xs + k) = omega arith in
    ap (λ (n : ℕ). slice_get (z ∷ (xs ++ ys)) n) e ∙ at_right xs ys k

at_map : {A B : Type 0} (f : A → B) (xs : List A) (k : ℕ) (x : A) → slice_get xs k ≡ Some x → slice_get (map f xs) k ≡ Some (f x)
at_map f [] k x is = absurd (cc (is))
at_map f (z ∷ xs) zero x is = let same : z ≡ x = cc (is) in ap (λ y. Some (f y)) same
at_map f (z ∷ xs) (suc k) x is = at_map f xs k x is

pub needles_more : {A B : Type 0} (f : A → B) (xs : List A) (k : ℕ) (x : A) → k < length xs → x ≡ get_or xs k x → map f (take (k + 1) xs) ≡ map f (take k xs) ++ f x ∷ []
needles_more {A} f xs k x lt is =
    let here : drop k xs ≡ x ∷ drop (suc k) xs = drop-cons xs k x lt ∙ ap (λ (y : A). y ∷ drop (suc k) xs) (sym is) in
    ap (map f) (take-add k 1 xs ∙ ap (λ (l : List A). take k xs ++ take 1 l) here) ∙ map-append f (take k xs) (x ∷ [])

-- ---- the lists

pub have_all : (within whole words lists marks : List (List ℕ)) → HoldersHave → AreFound within whole words lists → marks ≡ take (length within) lists → HaveAll within words marks
have_all within whole words lists marks law found is = λ j needle at n text there occurs.
    let here : slice_get (needles_for within whole) j ≡ Some (within_needle needle) = at_left (map within_needle within) (map whole_needle whole) j (within_needle needle) (at_map within_needle within j needle at) in
    let holders : Holders Within needle 0 words (slice_index_or lists j []) = found j (within_needle needle) here in
    let same : slice_index_or lists j [] ≡ slice_index_or marks j [] = sym (ap (λ (l : List (List ℕ)). get_or l j []) is ∙ front_get lists (length within) j (slice_get_within within j needle at)) in
    let e : 0 + n ≡ n = omega arith in
    subst (λ (l : List ℕ). Contains l n) same (subst (λ (m : ℕ). Contains (slice_index_or lists j []) m) e (law Within needle text 0 n words (slice_index_or lists j []) holders there occurs))
  where
    front_get : (xs : List (List ℕ)) (m k : ℕ) → k < m → get_or (take m xs) k [] ≡ get_or xs k []
    front_get [] zero k lt = refl
    front_get [] (suc m) k lt = refl
    front_get (x ∷ xs) zero k lt = absurd (omega (arith, lt))
    front_get (x ∷ xs) (suc m) zero lt = refl
    front_get (x ∷ xs) (suc m) (suc k) lt = front_get xs m k (omega (arith, lt))

pub have_none : (within words marks : List (List ℕ)) → length within ≡ 0 → HaveAll within words marks
have_none within words marks none = λ j needle at n text there occurs. absurd (omega (arith, slice_get_within within j needle at, none))

behind_get : (xs : List (List ℕ)) (m k : ℕ) → get_or (drop m xs) k [] ≡ get_or xs (m + k) []
behind_get xs zero k = let e : k ≡ 0 + k = omega arith in ap (λ (n : ℕ). get_or xs n []) e
behind_get [] (suc m) k = refl
behind_get (x ∷ xs) (suc m) k =
    let e : suc (m + k) ≡ suc m + k = omega arith in
    behind_get xs m k ∙ ap (λ (n : ℕ). get_or (x ∷ xs) n []) e

behind_long : (xs : List (List ℕ)) (m : ℕ) → m ≤ length xs → m + length (drop m xs) ≡ length xs
behind_long xs zero le = omega arith
behind_long [] (suc m) le = absurd (omega (arith, le))
behind_long (x ∷ xs) (suc m) le = omega (arith, behind_long xs m (omega (arith, le)))

pub are_numbers : (within whole words lists rest : List (List ℕ)) (flags : List Bool) (found : List (Option ℕ)) → AreFound within whole words lists → length lists ≡ length within + length whole → rest ≡ drop (length within) lists
    → AreReadOff rest found → AreNumbers words whole flags found
are_numbers within whole words lists rest flags found are long is read = λ k text at flag.
    let short : k < length whole = slice_get_within whole k text at in
    let many : length within + length rest ≡ length lists = ap (λ (l : List (List ℕ)). length within + length l) is ∙ behind_long lists (length within) (omega (arith, long)) in
    let long_map : length (map within_needle within) ≡ length within = length-map within within_needle in
    let there : slice_get (needles_for within whole) (length within + k) ≡ Some (whole_needle text) =
    ap (λ (n : ℕ). slice_get (needles_for within whole) (n + k)) (sym long_map) ∙ at_right (map within_needle within) (map whole_needle whole) k ∙ at_map whole_needle whole k text at in
    let holders : Holders Whole text 0 words (slice_index_or lists (length within + k) []) = are (length within + k) (whole_needle text) there in
    let same : slice_index_or lists (length within + k) [] ≡ slice_index_or rest k [] = sym (ap (λ (l : List (List ℕ)). get_or l k []) is ∙ behind_get lists (length within) k) in
    read.each k text words (omega (arith, short, many, long)) (subst (λ (l : List ℕ). Holders Whole text 0 words l) same holders)

pub no_numbers : (words whole : List (List ℕ)) (flags : List Bool) (found : List (Option ℕ)) → ((k : ℕ) → ¬ (slice_get flags k ≡ Some true)) → AreNumbers words whole flags found
no_numbers words whole flags found none = λ k text at flag. absurd (none k flag)

-- ---- the numbers of whole words

-- those of the first lists were read off
pub record ReadTo (lists : List (List ℕ)) (found : List (Option ℕ)) (count : ℕ) : Type 0 where
  pub long : length found ≡ count
  pub each :
      (k : ℕ) → k < count → (needle : List ℕ) (words : List (List ℕ)) → Holders Whole needle 0 words (slice_index_or lists k [])
      → IsNumber words needle (slice_index_or found k None)

pub read_first : (lists : List (List ℕ)) (found : List (Option ℕ)) → found ≡ [] → ReadTo lists found 0
read_first lists found none = record { long = ap (λ (l : List (Option ℕ)). length l) none; each = λ k lt. absurd (omega (arith, lt)) }

pub read_next : (lists : List (List ℕ)) (found later : List (Option ℕ)) (k : ℕ) (list own : List ℕ) (number : Option ℕ) → list ≡ own → own ≡ get_or lists k own → k < length lists → later ≡ found ++ number ∷ [] → ReadTo lists found k
    → ((needle : List ℕ) (words : List (List ℕ)) → Holders Whole needle 0 words list → IsNumber words needle number) → ReadTo lists later (k + 1)
read_next lists found later k list own number same is lt added before one = record {
  long = ap (λ (l : List (Option ℕ)). length l) added ∙ length-append found (number ∷ []) ∙ omega (arith, before.long);
  each = below_more (λ j. (needle : List ℕ) (words : List (List ℕ)) → Holders Whole needle 0 words (slice_index_or lists j []) → IsNumber words needle (slice_index_or later j None)) k
      (λ j below needle words holders. subst (IsNumber words needle) (sym (left_get j (omega (arith, below, before.long)))) (before.each j below needle words holders))
      (λ needle words holders. subst (IsNumber words needle) (sym last_get) (one needle words (subst (λ (l : List ℕ). Holders Whole needle 0 words l) list_is holders)));
}
  where
    list_is : slice_index_or lists k [] ≡ list
    list_is = get_or_default lists k [] own lt ∙ sym is ∙ sym same

    left_get : (j : ℕ) → j < length found → slice_index_or later j None ≡ slice_index_or found j None
    left_get j below = ap (λ (l : List (Option ℕ)). get_or l j None) added ∙ get_or_append_left found (number ∷ []) None j below

    last_get : slice_index_or later k None ≡ number
    last_get = ap (λ (l : List (Option ℕ)). get_or l k None) added ∙ push_get found k before.long
      where
        push_get : (xs : List (Option ℕ)) (n : ℕ) → length xs ≡ n → get_or (xs ++ number ∷ []) n None ≡ number
        push_get [] zero is = refl
        push_get [] (suc n) is = absurd (omega (arith, is))
        push_get (x ∷ xs) zero is = absurd (omega (arith, is))
        push_get (x ∷ xs) (suc n) is = push_get xs n (omega (arith, is))

pub read_all : (lists : List (List ℕ)) (found : List (Option ℕ)) (k : ℕ) → length lists ≤ k → k ≤ length lists → ReadTo lists found k → AreReadOff lists found
read_all lists found k end within read = record {
  long = omega (arith, read.long, end, within);
  each = λ j needle words lt holders. read.each j (omega (arith, lt, end)) needle words holders;
}
