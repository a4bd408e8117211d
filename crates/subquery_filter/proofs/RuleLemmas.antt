-- The rules of barren segments, place by place.
use Rattle.std.proofs.Common.{◌≡◌, ℕ, ◌+◌, suc, ◌<◌, ◌≤◌, Bool, true, false, List, [], ◌∷◌, length, get_or, refl, sym, ◌∙◌, ap, subst, arith, inl, inr, of_z, to_z, ⊎_elim}
use Rattle.std.specs.Prelude.{◌↔◌, ◌⊎◌, Option, Result, Ok, Err, None, Some, IsTrue, if◌then◌else◌, slice_get, slice_index_or}
use Rattle.std.specs.List.{Contains, HoldsAt}
use Rattle.std.specs.List.Sorted.{IsBinarySearchResult, IsStrictlyIncreasing}
use Rattle.std.specs.Ordering.{nat_cmp}
use Rattle.std.specs.Result.{is_err}
use Rattle.std.proofs.lemmas.Bool.{cases_lt}
use Rattle.std.proofs.lemmas.List.Elements.{Contains-get_or, at_from_Contains}
use Rattle.std.proofs.lemmas.List.Kept.{AllPairs-from_increasing}
use Rattle.std.proofs.lemmas.List.Sorted.{searched}
use Rattle.std.proofs.lemmas.Option.{get_or_from_slice_get, slice_get-get_or, slice_get_within}
use Rattle.var_codec.specs.Codes.{Codes}
use Rattle.var_codec.specs.declared.Coded.TheVariants.{Word as DictionaryWord}
use Rattle.std.specs.Int.{w64}
use Rattle.std.proofs.lemmas.Int.{to_z-of_z}
use Rattle.column_store.specs.declared.range.Range.{Range}
use Rattle.segment_format.specs.Layout.{IsHead}
use Rattle.segment_format.specs.declared.head.Head.{Head}
use Rattle.barren_segments.specs.Barren.{HasConstants, HoldsConstants, IsBounded, IsMissing, IsNeeded, IsOutside, LacksTypes, LacksWord, LeavesOut}
use Rattle.subquery_filter.specs.Asking.{AreConstants}
use Rattle.subquery_filter.specs.Found.{AreNumbers, IsNumber}
use Rattle.barren_segments.specs.Runs.{HoldsRun}
use Rattle.plain_list.specs.Texts.{AreDistinct, IsNew}
use Rattle.query_plan.specs.declared.pieces.Piece.{Piece}
use Rattle.query_plan.specs.declared.pieces.Piece.TheVariants.{Gap, Mark, Word}
use Rattle.query_plan.specs.Pieces.{Side, Free, After, Inside, is_needed, needed_of}
use Rattle.query_plan.specs.Needs.{byte_of, needed_variables_of}
use Rattle.token_rules.specs.Tokens.{is_variable}

-- ---- needed words by their places

-- of the needed words before this place, P holds of each with this flag
abbrev pub EachBefore : (List ℕ → Type 0) → List (List ℕ) → List Bool → Bool → ℕ → Type 0
EachBefore P words flags v n = (k : ℕ) (t : List ℕ) → k < n → slice_get words k ≡ Some t → slice_get flags k ≡ Some v → P t

pub each_none : (P : List ℕ → Type 0) (words : List (List ℕ)) (flags : List Bool) (v : Bool) → EachBefore P words flags v 0
each_none P words flags v k t below at flag = absurd (omega arith)

pub each_more : (P : List ℕ → Type 0) (words : List (List ℕ)) (flags : List Bool) (v : Bool) (n : ℕ) (w : List ℕ)
    → slice_get words n ≡ Some w → (get_or flags n false ≡ v → P w) → EachBefore P words flags v n → EachBefore P words flags v (n + 1)
each_more P words flags v n w here holds before k t below at flag = elim (cases_lt k n) [
  | inl less ↦ before k t less at flag
  | inr more ↦
      let same : k ≡ n = omega arith in
      let both : Some w ≡ Some t = sym here ∙ subst (λ j. slice_get words j ≡ Some t) same at in
      let texts : w ≡ t = cc in
      subst P texts (holds (get_or_from_slice_get flags n v false (subst (λ j. slice_get flags j ≡ Some v) same flag)))
]

each_all : (P : List ℕ → Type 0) (words : List (List ℕ)) (flags : List Bool) (v : Bool) (n : ℕ) → length words ≤ n → EachBefore P words flags v n
    → (k : ℕ) (t : List ℕ) → slice_get words k ≡ Some t → slice_get flags k ≡ Some v → P t
each_all P words flags v n all before k t at flag = let within = slice_get_within words k t at in before k t (omega arith) at flag

-- an element that was read
pub read_at : (words : List (List ℕ)) (n : ℕ) (w x : List ℕ) → n < length words → w ≡ x → x ≡ get_or words n x → slice_get words n ≡ Some w
read_at words n w x within is read = slice_get-get_or words n x within ∙ ap (λ t. Some t) (sym read ∙ sym is)

pub flag_at : (flags : List Bool) (n : ℕ) (v : Bool) → n < length flags → get_or flags n false ≡ v → slice_get flags n ≡ Some v
flag_at flags n v within is = slice_get-get_or flags n false within ∙ ap (λ t. Some t) is

needed_at : (ps : List Piece) (words : List (List ℕ)) (flags : List Bool) (n : ℕ) (w : List ℕ) (v : Bool) → words ≡ needed_of Free ps → flags ≡ needed_variables_of Free ps
    → slice_get words n ≡ Some w → n < length flags → get_or flags n false ≡ v → IsNeeded ps v w
needed_at ps words flags n w v words_are flags_are here within flag =
    (n, subst (λ l. slice_get l n ≡ Some w) words_are here, subst (λ l. slice_get l n ≡ Some v) flags_are (flag_at flags n v within flag))

needed_all : (P : List ℕ → Type 0) (ps : List Piece) (words : List (List ℕ)) (flags : List Bool) (n : ℕ) (v : Bool) → words ≡ needed_of Free ps → flags ≡ needed_variables_of Free ps
    → length words ≤ n → EachBefore P words flags v n → (t : List ℕ) → IsNeeded ps v t → P t
needed_all P ps words flags n v words_are flags_are all before t (k, at, flag) =
    each_all P words flags v n all before k t (subst (λ l. slice_get l k ≡ Some t) (sym words_are) at) (subst (λ l. slice_get l k ≡ Some v) (sym flags_are) flag)

-- a needed constant that the log type does not hold
pub holds_not : (ps : List Piece) (text : List ℕ) (words : List (List ℕ)) (flags : List Bool) (n : ℕ) (w : List ℕ) (b : Bool) → words ≡ needed_of Free ps → flags ≡ needed_variables_of Free ps
    → slice_get words n ≡ Some w → n < length flags → (IsTrue b ↔ (get_or flags n false ≡ false → HoldsRun text w)) → b ≡ false → IsTrue false ↔ HoldsConstants ps text
holds_not ps text words flags n w b words_are flags_are here within tells not_held = (
  λ f. absurd (let t : false ≡ true = f in cc),
  λ all. absurd (let both : b ≡ true = tells.1 (λ flag. all w (needed_at ps words flags n w false words_are flags_are here within flag)) in let t : true ≡ false = sym both ∙ not_held in cc),
)

pub holds_all : (ps : List Piece) (text : List ℕ) (words : List (List ℕ)) (flags : List Bool) (n : ℕ) → words ≡ needed_of Free ps → flags ≡ needed_variables_of Free ps
    → length words ≤ n → EachBefore (λ t. HoldsRun text t) words flags false n → IsTrue true ↔ HoldsConstants ps text
holds_all ps text words flags n words_are flags_are all before =
    (λ t word needed. needed_all (λ t. HoldsRun text t) ps words flags n false words_are flags_are all before word needed, λ holds. refl)

-- a needed variable that is missing
pub lacks_found : (ps : List Piece) (known : List (List ℕ)) (listed : List ℕ) (words : List (List ℕ)) (flags : List Bool) (n : ℕ) (w : List ℕ) → words ≡ needed_of Free ps → flags ≡ needed_variables_of Free ps
    → slice_get words n ≡ Some w → n < length flags → (get_or flags n false ≡ true) × IsMissing known listed w → IsTrue true ↔ LacksWord ps known listed
lacks_found ps known listed words flags n w words_are flags_are here within (flag, missing) =
    (λ t. (w, needed_at ps words flags n w true words_are flags_are here within flag, missing), λ lacks. refl)

pub lacks_none : (ps : List Piece) (known : List (List ℕ)) (listed : List ℕ) (words : List (List ℕ)) (flags : List Bool) (n : ℕ) → words ≡ needed_of Free ps → flags ≡ needed_variables_of Free ps
    → length words ≤ n → EachBefore (λ t. ¬ IsMissing known listed t) words flags true n → IsTrue false ↔ LacksWord ps known listed
lacks_none ps known listed words flags n words_are flags_are all before = (
  λ f. absurd (let t : false ≡ true = f in cc),
  λ (text, needed, missing). absurd (needed_all (λ t. ¬ IsMissing known listed t) ps words flags n true words_are flags_are all before text needed missing),
)

-- what a test says of what it does not find
pub tells_not : {A : Type 0} (b : Bool) → (IsTrue b ↔ A) → b ≡ false → ¬ A
tells_not b tells not_so a = let both : b ≡ true = tells.1 a in let t : true ≡ false = sym both ∙ not_so in cc

-- ---- log types by their places

abbrev pub NoneBefore : (ℕ → Type 0) → List ℕ → ℕ → Type 0
NoneBefore P listed n = (k : ℕ) → k < n → ¬ P (get_or listed k 0)

pub none_more : (P : ℕ → Type 0) (listed : List ℕ) (n : ℕ) → ¬ P (get_or listed n 0) → NoneBefore P listed n → NoneBefore P listed (n + 1)
none_more P listed n here before k below p = elim (cases_lt k n) [
  | inl less ↦ before k less p
  | inr more ↦ let same : k ≡ n = omega arith in here (subst (λ j. P (get_or listed j 0)) same p)
]

pub types_lack : (ps : List Piece) (types : List (List ℕ)) (listed : List ℕ) (n : ℕ) → length listed ≤ n → NoneBefore (HasConstants ps types) listed n → IsTrue true ↔ LacksTypes ps types listed
types_lack ps types listed n all before = (
  λ t number there has.
      let (k, within, at) = at_from_Contains listed number there in
      before k (omega arith) (subst (HasConstants ps types) (sym (at 0)) has),
  λ lacks. refl,
)

pub types_have : (ps : List Piece) (types : List (List ℕ)) (listed : List ℕ) (n : ℕ) → n < length listed → HasConstants ps types (get_or listed n 0) → IsTrue false ↔ LacksTypes ps types listed
types_have ps types listed n within has =
    (λ f. absurd (let t : false ≡ true = f in cc), λ lacks. absurd (lacks (get_or listed n 0) (Contains-get_or listed n 0 within) has))

-- so it is where it was told of each log type
pub told_lack : (ps : List Piece) (types : List (List ℕ)) (constants : List Bool) (listed : List ℕ) (n : ℕ) → AreConstants ps types constants → length listed ≤ n → NoneBefore (λ t. slice_get constants t ≡ Some true) listed n
    → IsTrue true ↔ LacksTypes ps types listed
told_lack ps types constants listed n are all before = types_lack ps types listed n all (λ k lt has. before k lt ((are (get_or listed k 0)).1 has))

pub told_have : (ps : List Piece) (types : List (List ℕ)) (constants : List Bool) (listed : List ℕ) (n : ℕ) → AreConstants ps types constants → n < length listed → slice_get constants (get_or listed n 0) ≡ Some true
    → IsTrue false ↔ LacksTypes ps types listed
told_have ps types constants listed n are within has = types_have ps types listed n within ((are (get_or listed n 0)).0 has)

-- a log type without a text has nothing
pub no_type : (ps : List Piece) (types : List (List ℕ)) (n : ℕ) → length types ≤ n → ¬ HasConstants ps types n
no_type ps types n past (text, at, holds) = let within = slice_get_within types n text at in omega arith

pub one_type : (ps : List Piece) (types : List (List ℕ)) (n : ℕ) (text : List ℕ) (b : Bool) → slice_get types n ≡ Some text → (IsTrue b ↔ HoldsConstants ps text) → IsTrue b ↔ HasConstants ps types n
one_type ps types n text b at tells = (
  λ yes_held. (text, at, tells.0 yes_held),
  λ (other, found, holds).
      let both : Some other ≡ Some text = sym found ∙ at in
      let same : other ≡ text = cc in
      tells.1 (subst (HoldsConstants ps) same holds),
)

long_step : (b : Bool) (t : List ℕ) (v : Bool) (words : List (List ℕ)) (flags : List Bool) → length words ≡ length flags
    → length (if b then t ∷ words else words) ≡ length (if b then v ∷ flags else flags)
long_step true t v words flags same = ap (λ n. suc n) same
long_step false t v words flags same = same

-- there are as many flags as words
pub flags_long : (e : Side) (ps : List Piece) → length (needed_of e ps) ≡ length (needed_variables_of e ps)
flags_long e [] = refl
flags_long e (Gap ∷ ps) = flags_long Free ps
flags_long e (Mark d ∷ ps) = flags_long (After d) ps
flags_long e (Word t ∷ ps) = long_step (is_needed e ps t) t (is_variable (byte_of e) t) (needed_of Inside ps) (needed_variables_of Inside ps) (flags_long Inside ps)

-- ---- a number in a list that rises

never_falls : (xs : List ℕ) → IsStrictlyIncreasing xs → (i j : ℕ) → i ≤ j → j < length xs → get_or xs i 0 ≤ get_or xs j 0
never_falls xs rise i j le within = elim (cases_lt i j) [
  | inl less ↦ let below = AllPairs-from_increasing xs rise i j 0 less within in omega (arith, below)
  | inr more ↦ let same : i ≡ j = omega arith in omega (arith, ap (λ k. get_or xs k 0) same)
]

out_of_place : (xs : List ℕ) (x i : ℕ) → ((k : ℕ) → k < i → get_or xs k 0 < x) → ((k : ℕ) → i ≤ k → k < length xs → x < get_or xs k 0)
    → (k : ℕ) × (k < length xs) × HoldsAt (λ y. y ≡ x) xs k → ⊥
out_of_place xs x i below above (k, within, at) =
    let here : get_or xs k 0 ≡ x = at 0 in
    elim (cases_lt k i) [
      | inl less ↦ omega (arith, below k less, here)
      | inr more ↦ omega (arith, above k more within, here)
    ]

-- a binary search finds no place exactly where the number is not there
pub not_found : (xs : List ℕ) (x : ℕ) (r : Result ℕ ℕ) → IsStrictlyIncreasing xs → IsBinarySearchResult (λ y. nat_cmp y x) xs r → IsTrue (is_err r) ↔ (Contains xs x → ⊥)
not_found xs x (Ok i) rise is =
    let at = searched xs x (Ok i) is (never_falls xs rise) in
    (λ yes. absurd (cc yes), λ none. absurd (none (subst (λ y. Contains xs y) at.1 (Contains-get_or xs i 0 at.0))))
not_found xs x (Err i) rise is =
    let at = searched xs x (Err i) is (never_falls xs rise) in
    (λ yes has. out_of_place xs x i at.1 at.2 (at_from_Contains xs x has), λ none. refl)

-- ---- words that are missing

-- a number of the text is known, and no text has two
pub missing_by : (words : List (List ℕ)) (listed : List ℕ) (text : List ℕ) (n : ℕ) (b : Bool) → AreDistinct words → Codes text DictionaryWord → slice_get words n ≡ Some text
    → (IsTrue b ↔ (Contains listed n → ⊥)) → IsTrue b ↔ IsMissing words listed text
missing_by words listed text n b distinct coded at tells = (
  λ yes. (coded, λ m other has. tells.0 yes (subst (λ k. Contains listed k) (distinct m n text other at) has)),
  λ missing. tells.1 (missing.1 n at),
)

-- it has no number
pub missing_new : (words : List (List ℕ)) (listed : List ℕ) (text : List ℕ) → Codes text DictionaryWord → IsNew words text → IsMissing words listed text
missing_new words listed text coded new = (coded, λ n at has. new n at)

-- the number that was found of a needed word
pub found_number : (known words : List (List ℕ)) (flags : List Bool) (found : List (Option ℕ)) (n : ℕ) (text : List ℕ) (number : Option ℕ) → slice_get words n ≡ Some text → n < length flags
    → number ≡ slice_index_or found n None → AreNumbers known words flags found → get_or flags n false ≡ true → IsNumber known text number
found_number known words flags found n text number here within read are flag = subst (IsNumber known text) (sym read) (are n text here (flag_at flags n true within flag))

-- ---- moments

-- what is told of the moments of a head, as they are passed
pub outside_tells : (range : Range) (head : Head) (b : Bool) → IsHead head
    → (IsTrue b ↔ ((head.rows ≡ 0) ⊎ (IsBounded range × LeavesOut range head.stamped (to_z w64 (of_z w64 head.least)) (to_z w64 (of_z w64 head.greatest)))))
    → IsTrue b ↔ ((head.rows ≡ 0) ⊎ (IsBounded range × IsOutside range head))
outside_tells range head b is tells =
    let least = to_z-of_z w64 head.least is.fixed.least in
    let greatest = to_z-of_z w64 head.greatest is.fixed.greatest in
    subst (λ m. IsTrue b ↔ ((head.rows ≡ 0) ⊎ (IsBounded range × LeavesOut range head.stamped head.least m))) greatest
    (subst (λ m. IsTrue b ↔ ((head.rows ≡ 0) ⊎ (IsBounded range × LeavesOut range head.stamped m (to_z w64 (of_z w64 head.greatest))))) least tells)

-- ---- all rules

pub last_rules : {A B C D : Type 0} (b : Bool) → ¬ (A ⊎ B) → ¬ C → (IsTrue b ↔ D) → IsTrue b ↔ (A ⊎ (B ⊎ (C ⊎ D)))
last_rules b neither not_c tells = (
  λ so. inr (inr (inr (tells.0 so))),
  λ any. ⊎_elim (λ x. absurd (neither (inl x))) (λ more. ⊎_elim (λ x. absurd (neither (inr x))) (λ rest. ⊎_elim (λ x. absurd (not_c x)) (λ x. tells.1 x) rest) more) any,
)

pub first_rules : {A B C D : Type 0} → A ⊎ B → IsTrue true ↔ (A ⊎ (B ⊎ (C ⊎ D)))
first_rules (inl x) = (λ so. inl x, λ any. refl)
first_rules (inr x) = (λ so. inr (inl x), λ any. refl)

pub third_rule : {A B C D : Type 0} (b : Bool) → b ≡ true → (IsTrue b ↔ C) → IsTrue b ↔ (A ⊎ (B ⊎ (C ⊎ D)))
third_rule b yes_so tells = (λ so. inr (inr (inl (tells.0 so))), λ any. yes_so)
