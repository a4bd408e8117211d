-- Log types that are asked one behind the other.
use Rattle.std.proofs.Common.{◌≡◌, ℕ, zero, suc, ◌+◌, ◌<◌, ◌≤◌, Bool, false, true, List, [], ◌∷◌, ◌++◌, length, get_or, take, refl, sym, ◌∙◌, ap, subst, arith, inl, inr, length-append}
use Rattle.std.specs.Prelude.{◌↔◌, All, IsTrue, None, Some, slice_get, slice_index_or}
use Rattle.std.specs.List.{Contains}
use Rattle.std.proofs.lemmas.Bool.{cases_lt}
use Rattle.std.proofs.lemmas.List.{get_or_append_left, get_or_past, get_or_push}
use Rattle.std.proofs.lemmas.List.Elements.{All-contains, All-from_get_or, Contains-append_cases, Contains-append_left, Contains-append_right, Contains-get_or}
use Rattle.std.proofs.lemmas.Option.{slice_get_within}
use Rattle.barren_segments.specs.Barren.{HoldsConstants}
use Rattle.barren_segments.specs.Runs.{HoldsRun}
use Rattle.query_plan.specs.declared.pieces.Piece.{Piece}
use Rattle.query_plan.specs.Needs.{needed_variables_of}
use Rattle.query_plan.specs.Pieces.{Free, needed_of}
use Rattle.subquery_filter.specs.declared.filter.Filter.{Filter}
use Rattle.subquery_filter.specs.declared.run.Run.{Run}
use Rattle.subquery_filter.specs.declared.slots.Slot.{Slot}
use Rattle.subquery_filter.specs.declared.slots.TypeTest.{TypeTest}
use Rattle.subquery_filter.specs.declared.token.Token.{Token}
use Rattle.subquery_filter.specs.declared.verdicts.Verdict.{Verdict}
use Rattle.subquery_filter.specs.declared.asking.AskedTypes.{AskedTypes}
use Rattle.subquery_filter.specs.declared.asking.Asking.{Asking}
use Rattle.subquery_filter.specs.declared.slots.Question.{Question}
use Rattle.subquery_filter.specs.Asking.{AreAsked, AreConstants, AreFirst, AreNeeded, HasAsked, IsQuestion}
use Rattle.subquery_filter.specs.Filter.{AreAlone, AreMarks, AreTests, AreToldBy, AsksTypes, IsAlone, IsTest, IsToldBy, others_of}
use Rattle.subquery_filter.specs.StepsFilter.{Stays}
use Rattle.subquery_filter.proofs.AloneLemmas.{alone_push}
use Rattle.subquery_filter.proofs.BarrenLemmas.{contains_cases, contains_first, contains_none}
use Rattle.subquery_filter.proofs.BitLemmas.{has_none}
use Rattle.subquery_filter.proofs.FilterLemmas.{grown, push_cases, push_got, push_last, tests_step}
use Rattle.subquery_filter.proofs.RuleLemmas.{flag_at}

-- ---- the first ones of all log types

first_at : {X : Type 0} (xs : List X) (x : X) (t : ℕ) → t < length xs → slice_get (xs ++ x ∷ []) t ≡ slice_get xs t
first_at [] x t lt = absurd (omega (arith, lt))
first_at (y ∷ xs) x zero lt = refl
first_at (y ∷ xs) x (suc t) lt = first_at xs x t (omega (arith, lt))

pub first_push : (types : List (List ℕ)) (text : List ℕ) → AreFirst types (types ++ text ∷ [])
first_push types text t lt = first_at types text t lt

pub first_taken : (n : ℕ) (types : List (List ℕ)) → AreFirst (take n types) types
first_taken zero types t lt = absurd (omega (arith, lt))
first_taken (suc n) [] t lt = absurd (omega (arith, lt))
first_taken (suc n) (x ∷ types) zero lt = refl
first_taken (suc n) (x ∷ types) (suc t) lt = first_taken n types t (omega (arith, lt))

pub tests_of_all : (ps : List Piece) (tokens : List Token) (others : ℕ) (types all : List (List ℕ)) (slots : List Slot) (tests : List TypeTest) → length tests ≡ length types → AreFirst types all
    → AreTests ps tokens others types slots tests → AreTests ps tokens others all slots tests
tests_of_all ps tokens others types all slots tests size first are t text test there is =
    let within = slice_get_within tests t test is in
    are t text test (sym (first t (omega (arith, within, size))) ∙ there) is

pub alone_of_all : (runs : List Run) (types all : List (List ℕ)) (alone : List ℕ) → length alone ≡ length types → AreFirst types all → AreAlone runs types alone → AreAlone runs all alone
alone_of_all runs types all alone size first are t text there = elim (cases_lt t (length types)) [
  | inl less ↦ are t text (sym (first t less) ∙ there)
  | inr past ↦ subst (IsAlone runs text) (sym (get_or_past alone t 0 (omega (arith, past, size)))) (λ may each. has_none may)
]

-- ---- one log type more

pub tests_next : (ps : List Piece) (tokens : List Token) (others : ℕ) (types : List (List ℕ)) (slots more : List Slot) (old new : List TypeTest) (text : List ℕ) (test : TypeTest) → length old ≡ length types → new ≡ old ++ test ∷ []
    → Stays slots more → IsTest ps tokens others more text test → AreTests ps tokens others types slots old → AreTests ps tokens others (types ++ text ∷ []) more new
tests_next ps tokens others types slots more old new text test size is stays here before =
    tests_step ps tokens others (types ++ text ∷ []) (length types) slots more old new text test size is (push_last types text) stays here
    (tests_of_all ps tokens others types (types ++ text ∷ []) slots old size (first_push types text) before)

pub alone_next : (runs : List Run) (types : List (List ℕ)) (old new : List ℕ) (bits : ℕ) (text : List ℕ) → length old ≡ length types → new ≡ old ++ bits ∷ [] → IsAlone runs text bits
    → AreAlone runs types old → AreAlone runs (types ++ text ∷ []) new
alone_next runs types old new bits text size is here before =
    alone_push runs (types ++ text ∷ []) (length types) old new bits text size is (push_last types text) here
    (alone_of_all runs types (types ++ text ∷ []) old size (first_push types text) before)

pub told_next : (f : Filter) (tests more_tests : List TypeTest) (alone more_alone : List ℕ) (old new : List Verdict) (test : TypeTest) (bits : ℕ) (v : Verdict) (n : ℕ) → length tests ≡ n → length alone ≡ n → length old ≡ n
    → more_tests ≡ tests ++ test ∷ [] → more_alone ≡ alone ++ bits ∷ [] → new ≡ old ++ v ∷ [] → IsToldBy f test bits v → AreToldBy f tests alone old → AreToldBy f more_tests more_alone new
told_next f tests more_tests alone more_alone old new test bits v n size_tests size_alone size tests_are alone_are is here before t other at =
    elim (push_cases old v t other (subst (λ (l : List Verdict). slice_get l t ≡ Some other) is at)) [
      | inl earlier ↦
          let (found, there, how) = before t other earlier in
          let within = slice_get_within old t other earlier in
          let same : slice_index_or more_alone t 0 ≡ slice_index_or alone t 0 = ap (λ (l : List ℕ). get_or l t 0) alone_are ∙ get_or_append_left alone (bits ∷ []) 0 t (omega (arith, within, size, size_alone)) in
          (found, subst (λ (l : List TypeTest). slice_get l t ≡ Some found) (sym tests_are) (push_got tests test t found there), subst (λ b. IsToldBy f found b other) (sym same) how)
      | inr (e, same) ↦
          let there : slice_get (tests ++ test ∷ []) t ≡ Some test = subst (λ k. slice_get (tests ++ test ∷ []) k ≡ Some test) (size_tests ∙ sym size ∙ sym e) (push_last tests test) in
          let last : slice_index_or more_alone t 0 ≡ bits = ap (λ (l : List ℕ). get_or l t 0) alone_are ∙ get_or_push alone bits 0 t (size_alone ∙ sym size ∙ sym e) in
          (test, subst (λ (l : List TypeTest). slice_get l t ≡ Some test) (sym tests_are) there, subst (λ b. IsToldBy f test b other) (sym last) (subst (IsToldBy f test bits) same here))
    ]

pub constants_next : (ps : List Piece) (types : List (List ℕ)) (old new : List Bool) (b : Bool) (text : List ℕ) → length old ≡ length types → new ≡ old ++ b ∷ [] → (IsTrue b ↔ HoldsConstants ps text)
    → AreConstants ps types old → AreConstants ps (types ++ text ∷ []) new
constants_next ps types old new b text size is tells before t = (
  λ yes. elim (push_cases old b t true (subst (λ (l : List Bool). slice_get l t ≡ Some true) is yes)) [
    | inl earlier ↦
        let (x, there, holds) = (before t).0 earlier in
        (x, push_got types text t x there, holds)
    | inr (e, same) ↦ (text, subst (λ k. slice_get (types ++ text ∷ []) k ≡ Some text) (sym size ∙ sym e) (push_last types text), tells.0 same)
  ],
  λ (x, there, holds). subst (λ (l : List Bool). slice_get l t ≡ Some true) (sym is) (elim (push_cases types text t x there) [
    | inl earlier ↦ push_got old b t true ((before t).1 (x, earlier, holds))
    | inr (e, same) ↦
        let has : b ≡ true = tells.1 (subst (HoldsConstants ps) (sym same) holds) in
        subst (λ k. slice_get (old ++ b ∷ []) k ≡ Some true) (size ∙ sym e) (push_last old b ∙ ap (λ (c : Bool). Some c) has)
  ]),
)

pub constants_none : (ps : List Piece) (constants : List Bool) → constants ≡ [] → AreConstants ps [] constants
constants_none ps constants none t = (
  λ yes. absurd (let e : None ≡ Some true = ap (λ (l : List Bool). slice_get l t) (sym none) ∙ yes in cc),
  λ (x, there, holds). absurd (cc there),
)

-- ---- needed words that are no variables

-- such a word stands at one of the first places
abbrev pub IsConstantBefore : List (List ℕ) → List Bool → ℕ → List ℕ → Type 0
IsConstantBefore words flags n word = (k : ℕ) × (k < n) × (slice_get words k ≡ Some word) × (slice_get flags k ≡ Some false)

-- these are the ones at the first places
abbrev pub ConstantsBefore : List (List ℕ) → List Bool → ℕ → List (List ℕ) → Type 0
ConstantsBefore words flags n constants = (word : List ℕ) → Contains constants word ↔ IsConstantBefore words flags n word

pub before_none : (words : List (List ℕ)) (flags : List Bool) (constants : List (List ℕ)) → constants ≡ [] → ConstantsBefore words flags 0 constants
before_none words flags constants none word = (
  λ has. absurd (contains_none word (subst (λ (l : List (List ℕ)). Contains l word) none has)),
  λ (k, lt, there, flag). absurd (omega (arith, lt)),
)

-- a word at the next place that is a variable
before_variable : (words : List (List ℕ)) (flags : List Bool) (n : ℕ) (old new : List (List ℕ)) → slice_get flags n ≡ Some true → new ≡ old → ConstantsBefore words flags n old → ConstantsBefore words flags (n + 1) new
before_variable words flags n old new variable same before word = (
  λ has.
      let (k, lt, there, flag) = (before word).0 (subst (λ (l : List (List ℕ)). Contains l word) same has) in
      (k, omega (arith, lt), there, flag),
  λ (k, lt, there, flag). subst (λ (l : List (List ℕ)). Contains l word) (sym same) ((before word).1 (k, below k lt flag, there, flag)),
)
  where
    below : (k : ℕ) → k < n + 1 → slice_get flags k ≡ Some false → k < n
    below k lt flag = elim (cases_lt k n) [
      | inl less ↦ less
      | inr past ↦ let e : n ≡ k = omega (arith, lt, past) in absurd (let clash : Some true ≡ Some false = sym (subst (λ j. slice_get flags j ≡ Some true) e variable) ∙ flag in cc)
    ]

-- and one that is none
before_constant : (words : List (List ℕ)) (flags : List Bool) (n : ℕ) (old new : List (List ℕ)) (text : List ℕ) → slice_get flags n ≡ Some false → slice_get words n ≡ Some text → new ≡ old ++ text ∷ []
    → ConstantsBefore words flags n old → ConstantsBefore words flags (n + 1) new
before_constant words flags n old new text constant here is before word = (
  λ has. elim (Contains-append_cases old (text ∷ []) word (subst (λ (l : List (List ℕ)). Contains l word) is has)) [
    | inl earlier ↦
        let (k, lt, there, flag) = (before word).0 earlier in
        (k, omega (arith, lt), there, flag)
    | inr last ↦ elim (contains_cases text word [] last) [
      | inl same ↦ (n, omega arith, here ∙ ap (λ (t : List ℕ). Some t) same, constant)
      | inr none ↦ absurd (contains_none word none)
    ]
  ],
  λ (k, lt, there, flag). subst (λ (l : List (List ℕ)). Contains l word) (sym is) (elim (cases_lt k n) [
    | inl less ↦ Contains-append_left old (text ∷ []) word ((before word).1 (k, less, there, flag))
    | inr past ↦
        let e : n ≡ k = omega (arith, lt, past) in
        let both : Some text ≡ Some word = sym (subst (λ j. slice_get words j ≡ Some text) e here) ∙ there in
        Contains-append_right old (text ∷ []) word (contains_first text word [] (let same : text ≡ word = cc in same))
  ]),
)

pub before_next : (words : List (List ℕ)) (flags : List Bool) (n : ℕ) (old new : List (List ℕ)) (text : List ℕ) → n < length flags → slice_get words n ≡ Some text → (get_or flags n false ≡ true → new ≡ old)
    → (get_or flags n false ≡ false → new ≡ old ++ text ∷ []) → ConstantsBefore words flags n old → ConstantsBefore words flags (n + 1) new
before_next words flags n old new text within here kept more before = by_flag (get_or flags n false) refl
  where
    by_flag : (b : Bool) → get_or flags n false ≡ b → ConstantsBefore words flags (n + 1) new
    by_flag true is = before_variable words flags n old new (flag_at flags n true within is) (kept is) before
    by_flag false is = before_constant words flags n old new text (flag_at flags n false within is) here (more is) before

pub needed_are : (ps : List Piece) (words : List (List ℕ)) (flags : List Bool) (n : ℕ) (constants : List (List ℕ)) → words ≡ needed_of Free ps → flags ≡ needed_variables_of Free ps → length words ≤ n
    → ConstantsBefore words flags n constants → AreNeeded ps constants
needed_are ps words flags n constants words_are flags_are all before word = (
  λ has.
      let (k, lt, there, flag) = (before word).0 has in
      (k, subst (λ (l : List (List ℕ)). slice_get l k ≡ Some word) words_are there, subst (λ (l : List Bool). slice_get l k ≡ Some false) flags_are flag),
  λ (k, there, flag).
      let at : slice_get words k ≡ Some word = subst (λ (l : List (List ℕ)). slice_get l k ≡ Some word) (sym words_are) there in
      let within = slice_get_within words k word at in
      (before word).1 (k, omega (arith, within, all), at, subst (λ (l : List Bool). slice_get l k ≡ Some false) (sym flags_are) flag),
)

-- a log type has all of them, where it has each that is listed
pub all_constants : (ps : List Piece) (text : List ℕ) (constants : List (List ℕ)) (b : Bool) → AreNeeded ps constants → (IsTrue b ↔ All (λ (w : List ℕ). HoldsRun text w) constants) → IsTrue b ↔ HoldsConstants ps text
all_constants ps text constants b are tells = (
  λ yes word needed. All-contains (λ (w : List ℕ). HoldsRun text w) constants word (tells.0 yes) ((are word).1 needed),
  λ holds. tells.1 (All-from_get_or (λ (w : List ℕ). HoldsRun text w) constants [] (λ k lt. holds (get_or constants k []) ((are (get_or constants k [])).0 (Contains-get_or constants k [] lt)))),
)

-- ---- as a whole

pub asked_next : (ps : List Piece) (types : List (List ℕ)) (old new : Asking) (text : List ℕ) (test : TypeTest) (bits : ℕ) (v : Verdict) (b : Bool) → new.filter ≡ old.filter → new.question ≡ old.question
    → new.tests.items ≡ old.tests.items ++ test ∷ [] → new.alone.items ≡ old.alone.items ++ bits ∷ [] → new.verdicts.items ≡ old.verdicts.items ++ v ∷ [] → new.constants.items ≡ old.constants.items ++ b ∷ []
    → Stays old.slots.items new.slots.items → ((qs : List Piece) → IsQuestion qs old.filter.tokens.items old.question → IsTest qs old.filter.tokens.items old.question.others new.slots.items text test)
    → IsAlone old.filter.runs.items text bits → IsToldBy old.filter test bits v → (IsTrue b ↔ All (λ (w : List ℕ). HoldsRun text w) old.question.constants.items)
    → (f : Filter) → HasAsked ps f types old → HasAsked ps f (types ++ text ∷ []) new
asked_next ps types old new text test bits v b same_filter same_question tests_are alone_are verdicts_are constants_are stays is_test is_alone is_told tells f h =
    let mine : HasAsked ps old.filter types old = subst (λ (x : Filter). HasAsked ps x types old) (sym h.begun) h in
    let n = length types in
    let counts = mine.counts in
    let others : old.question.others ≡ others_of old.filter = mine.others in
    let here : IsTest ps old.filter.tokens.items (others_of old.filter) new.slots.items text test =
    subst (λ (k : ℕ). IsTest ps old.filter.tokens.items k new.slots.items text test) others (is_test ps mine.question) in
    let whole : n + 1 ≡ length (types ++ text ∷ []) = omega (arith, length-append types (text ∷ [])) in
    subst (λ (x : Filter). HasAsked ps x (types ++ text ∷ []) new) h.begun
    (record {
      begun = same_filter;
      question = subst (IsQuestion ps old.filter.tokens.items) (sym same_question) mine.question;
      others = ap (λ (q : Question). q.others) same_question ∙ others;
      needed = subst (λ (q : Question). AreNeeded ps q.constants.items) (sym same_question) mine.needed;
      tests =
          tests_next ps old.filter.tokens.items (others_of old.filter) types old.slots.items new.slots.items old.tests.items new.tests.items text test counts.of_tests tests_are stays here
          mine.tests;
      alone = alone_next old.filter.runs.items types old.alone.items new.alone.items bits text counts.of_alone alone_are is_alone mine.alone;
      told =
          told_next old.filter old.tests.items new.tests.items old.alone.items new.alone.items old.verdicts.items new.verdicts.items test bits v n counts.of_tests counts.of_alone counts.of_verdicts
          tests_are alone_are verdicts_are is_told mine.told;
      constants =
          constants_next ps types old.constants.items new.constants.items b text counts.of_constants constants_are (all_constants ps text old.question.constants.items b mine.needed tells)
          mine.constants;
      counts = record {
        of_tests = grown old.tests.items new.tests.items test n counts.of_tests tests_are ∙ whole;
        of_alone = grown old.alone.items new.alone.items bits n counts.of_alone alone_are ∙ whole;
        of_verdicts = grown old.verdicts.items new.verdicts.items v n counts.of_verdicts verdicts_are ∙ whole;
        of_constants = grown old.constants.items new.constants.items b n counts.of_constants constants_are ∙ whole;
      };
    })

pub asked_from : (ps : List Piece) (f : Filter) (types : List (List ℕ)) (asked : AskedTypes) → f.tokens.items ≡ asked.filter.tokens.items → f.marks ≡ asked.filter.marks
    → ((all : List (List ℕ)) → AreFirst types all → AsksTypes ps all f → AsksTypes ps all asked.filter) → AreConstants ps types asked.constants.items → AreAsked ps f types asked
asked_from ps f types asked tokens marks asks constants = record {
  asks = asks;
  filter = λ all words first is. record {
    asks = asks all first is.asks;
    marks = subst (AreMarks asked.filter.tokens.items words) marks (subst (λ (l : List Token). AreMarks l words f.marks) tokens is.marks);
  };
  constants = constants;
}

take_next : (types : List (List ℕ)) (n : ℕ) (text : List ℕ) → slice_get types n ≡ Some text → take n types ++ text ∷ [] ≡ take (suc n) types
take_next [] n text at = absurd (cc at)
take_next (x ∷ types) zero text at = let same : text ≡ x = cc (at) in ap (λ (t : List ℕ). t ∷ []) same
take_next (x ∷ types) (suc n) text at = ap (λ (l : List (List ℕ)). x ∷ l) (take_next types n text at)

pub asked_take : (ps : List Piece) (f : Filter) (types : List (List ℕ)) (n : ℕ) (text : List ℕ) (asking : Asking) → slice_get types n ≡ Some text → HasAsked ps f (take n types ++ text ∷ []) asking → HasAsked ps f (take (n + 1) types) asking
asked_take ps f types n text asking at h =
    let next : suc n ≡ n + 1 = omega arith in
    subst (λ (k : ℕ). HasAsked ps f (take k types) asking) next (subst (λ (l : List (List ℕ)). HasAsked ps f l asking) (take_next types n text at) h)
