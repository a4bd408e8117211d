-- Rows of which no variable counts.
use Rattle.std.proofs.Common.{◌≡◌, ℕ, ◌+◌, ◌-◌, ◌<◌, ◌≤◌, true, List, [], ◌∷◌, ◌++◌, length, get_or, drop, sym, ◌∙◌, ap, subst, arith, inl, inr}
use Rattle.std.specs.Prelude.{◌⊎◌, All, None, Option, Some, bit_or, slice_get, slice_index_or, slice_range, ℤ}
use Rattle.std.specs.Int.{cast_signed, cast_unsigned, w64}
use Rattle.std.proofs.lemmas.Bool.{cases_lt}
use Rattle.std.proofs.lemmas.List.{get_or-drop, get_or-take, get_or_default, length-drop, length-take}
use Rattle.std.proofs.lemmas.Option.{get_or_from_slice_get, slice_get_within}
use Rattle.column_store.specs.declared.row.Row.{Row}
use Rattle.var_codec.specs.Codes.{Codes}
use Rattle.var_codec.specs.Laws.{OneWord}
use Rattle.var_codec.specs.declared.Coded.TheVariants.{Decimal as DecimalWord, Whole as WholeWord}
use Rattle.logtype_text.specs.declared.symbols.Kind.{Kind}
use Rattle.logtype_text.specs.declared.symbols.Kind.TheVariants.{Whole, Word, Decimal}
use Rattle.wild_match.specs.Matches.{Match}
use Rattle.wild_match.specs.declared.pattern.Item.{Item}
use Rattle.row_codec.specs.Means.{HasWord}
use Rattle.query_plan.specs.Laws.{IsSearched}
use Rattle.query_plan.specs.Needs.{around}
use Rattle.query_plan.specs.Pieces.{wide_pieces}
use Rattle.query_plan.specs.declared.pieces.Piece.{Piece}
use Rattle.subquery_filter.specs.declared.filter.Filter.{Filter}
use Rattle.subquery_filter.specs.declared.needing.Need.{Need}
use Rattle.subquery_filter.specs.declared.needing.Need.TheVariants.{Never, Hit}
use Rattle.subquery_filter.specs.declared.slots.TypeTest.{TypeTest}
use Rattle.subquery_filter.specs.declared.token.Token.{Token}
use Rattle.subquery_filter.specs.declared.verdicts.Verdict.{Verdict}
use Rattle.subquery_filter.specs.declared.verdicts.Verdict.TheVariants.{Rejected, Tried}
use Rattle.subquery_filter.specs.Filter.{AreNeeds, AreOpenBits, CountsNot, Has, IsBound, IsFilter, IsNeed, IsNoCode, IsOpenWord, IsRowVerdict, LacksBare, MarksOpen, MarksVariable, NoneCounts, marks_at}
use Rattle.subquery_filter.specs.NumberText.{is_number_part}
use Rattle.subquery_filter.specs.StepsFilter.{HasEach, LacksHits, LacksStamp, LacksTokens}
use Rattle.subquery_filter.specs.Tokens.{RowsBring}
use Rattle.subquery_filter.specs.Verdicts.{CertainAlwaysMatches, RejectedNeverMatches}
use Rattle.subquery_filter.proofs.BitLemmas.{has_left, has_none, has_right, has_self, has_through, has_zero}
use Rattle.subquery_filter.proofs.ClosedLemmas.{are_coded, exact_marks}
use Rattle.subquery_filter.proofs.FilterLemmas.{lacks_bits, lacks_runs, push_cases, row_lacks, stamp_may, told_verdict}
use Rattle.subquery_filter.proofs.NumberLemmas.{any_part, decimal_part, stands_in, whole_coded, whole_is, whole_part}

-- ---- what is needed, by the numbers of the log types

pub needs_none : (tokens : List Token) (tests : List TypeTest) (stamped wanted bound : ℕ) (verdicts : List Verdict) (needs : List Need) → needs ≡ [] → (t : ℕ) (need : Need) → slice_get needs t ≡ Some need → IsNeed tokens tests stamped wanted bound verdicts t need
needs_none tokens tests stamped wanted bound verdicts needs none t need at = absurd (let e : None ≡ Some need = ap (λ (l : List Need). slice_get l t) (sym none) ∙ at in cc)

pub needs_step : (f : Filter) (verdicts : List Verdict) (i : ℕ) (old new : List Need) (need : Need) → length old ≡ i → new ≡ old ++ need ∷ [] → IsNeed f.tokens.items f.tests.items f.stamped f.wanted f.small.bound verdicts i need
    → AreNeeds f verdicts old → AreNeeds f verdicts new
needs_step f verdicts i old new need size is here before t other at =
    elim (push_cases old need t other (subst (λ (l : List Need). slice_get l t ≡ Some other) is at)) [
      | inl earlier ↦ before t other earlier
      | inr (e, same) ↦
          subst (λ n. IsNeed f.tokens.items f.tests.items f.stamped f.wanted f.small.bound verdicts n other) (sym (e ∙ size))
          (subst (IsNeed f.tokens.items f.tests.items f.stamped f.wanted f.small.bound verdicts i) same here)
    ]

-- what a log type lacks that does not have these bits
pub lacks_bare : (tokens : List Token) (test : TypeTest) (stamped wanted bound bits : ℕ) → (bound ≡ 0 → AreOpenBits tokens bits) → ¬ Has (bit_or (bit_or test.has stamped) bits) wanted → LacksBare tokens test stamped wanted bound
lacks_bare tokens test stamped wanted bound bits numbers lacks =
    let own : ℕ = bit_or test.has stamped in
    record {
      bits = bit_or own bits;
      has = has_left own bits test.has (has_left test.has stamped test.has (has_self test.has));
      stamps = has_left own bits stamped (has_right test.has stamped);
      numbers = λ none j d lt open_number. has_through (bit_or own bits) bits (slice_index_or tokens j d).bit (has_right own bits) (numbers none j d lt open_number);
      lacks = lacks;
    }

-- ---- words that do not count

pub counts_none : (f : Filter) (block : List ℕ) (bits : ℕ) → HasEach f.marks block bits → bits ≡ 0 → All (λ k. All (IsNoCode k) block) f.tokens.items → (0 < f.small.bound → All (λ w. w < f.small.bound) block) → All (CountsNot f) block
counts_none f block bits each none codes below j d lt =
    let word : ℕ = slice_index_or block j d in
    let marked : Has bits (marks_at f.marks word) = each word (j, lt, get_or_default block j word d lt) in
    record {
      marks = has_zero (marks_at f.marks word) (subst (λ (n : ℕ). Has n (marks_at f.marks word)) none marked);
      code = λ i e less. codes i e less j d lt;
      below = λ some. below some j d lt;
    }

pub counts_from : (f : Filter) (words : List ℕ) (from : ℕ) → NoneCounts f words from from
counts_from f words from k low high lt = absurd (omega (arith, low, high))

-- behind a block
pub counts_past : (f : Filter) (words block : List ℕ) (from at size : ℕ) → at + size ≤ length words → block ≡ slice_range words at (at + size) → All (CountsNot f) block → NoneCounts f words from at → NoneCounts f words from (at + size)
counts_past f words block from at size within is none before k low high lt = elim (cases_lt k at) [
  | inl less ↦ before k low less lt
  | inr past ↦
      let rest : List ℕ = drop at words in
      let long : length block ≡ size = omega (arith, ap length is, length-take (at + size - at) rest, length-drop at words, within) in
      let there : get_or block (k - at) 0 ≡ get_or words k 0 =
      ap (λ (l : List ℕ). get_or l (k - at) 0) is ∙ get_or-take (at + size - at) rest (k - at) 0 (omega (arith, past, high)) ∙ get_or-drop at words (k - at) 0 ∙ ap (λ (n : ℕ). get_or words n 0) (let e : at + (k - at) ≡ k = omega (arith, past) in e) in
      subst (CountsNot f) there (none (k - at) 0 (omega (arith, long, past, high)))
]

pub counts_on : (f : Filter) (words : List ℕ) (from near to : ℕ) → NoneCounts f words from near → NoneCounts f words near to → NoneCounts f words from to
counts_on f words from near to one two k low high lt = elim (cases_lt k near) [
  | inl less ↦ one k low less lt
  | inr past ↦ two k past high lt
]

-- the words of a row
counts_in : (f : Filter) (words row : List ℕ) (start end hit : ℕ) → row ≡ slice_range words start end → end ≤ hit → NoneCounts f words start hit → (place word : ℕ) → slice_get row place ≡ Some word → CountsNot f word
counts_in f words row start end hit is past none place word at =
    let rest : List ℕ = drop start words in
    let here : place < length row = slice_get_within row place word at in
    let short : place < end - start = omega (arith, here, ap length is, length-take (end - start) rest) in
    let within : start + place < length words = omega (arith, here, ap length is, length-take (end - start) rest, length-drop start words) in
    let there : get_or words (start + place) 0 ≡ word =
    sym (get_or-drop start words place 0) ∙ sym (get_or-take (end - start) rest place 0 short) ∙ ap (λ (l : List ℕ). get_or l place 0) (sym is) ∙ get_or_from_slice_get row place word 0 at in
    subst (CountsNot f) there (none (start + place) (omega arith) (omega (arith, short, past)) within)

-- ---- the row

open_marks : (tokens : List Token) (text : List ℕ) (bits : ℕ) → AreOpenBits tokens bits → ((t : List ℕ) → Match (around t) text → is_number_part true t ≡ true) → MarksOpen tokens text bits
open_marks tokens text bits openly part j d lt free m =
    let k : Token = slice_index_or tokens j d in openly j d lt (free, part k.text (stands_in k text m))

-- a number with this word brings no more by open tokens than these bits
record BringsOpen (tokens : List Token) (word bits : ℕ) : Type 0 where
  whole : (variable : List ℕ) (n : ℤ) → Codes variable (WholeWord n) → word ≡ cast_unsigned w64 n → MarksOpen tokens variable bits
  decimal : (variable : List ℕ) → Codes variable (DecimalWord word) → MarksOpen tokens variable bits

open_brings : (tokens : List Token) (word bits : ℕ) → AreOpenBits tokens bits → BringsOpen tokens word bits
open_brings tokens word bits openly = record {
  whole = λ variable n coded packs. open_marks tokens variable bits openly (λ t m. any_part t (whole_part t variable n coded m));
  decimal = λ variable coded. open_marks tokens variable bits openly (λ t m. decimal_part t variable word coded m);
}

more_marks : (tokens : List Token) (text : List ℕ) (bits : ℕ) → MarksOpen tokens text 0 → MarksOpen tokens text bits
more_marks tokens text bits marks j d lt free m = has_through bits 0 (slice_index_or tokens j d).bit (has_none bits) (marks j d lt free m)

-- below the bound it brings none
below_brings : (tokens : List Token) (bound word bits : ℕ) → IsBound tokens bound → word < bound → BringsOpen tokens word bits
below_brings tokens bound word bits h below = record {
  whole = λ variable n coded packs. more_marks tokens variable bits (subst (λ (t : List ℕ). MarksOpen tokens t 0) (sym (whole_is variable n word coded packs)) (h.whole word below));
  decimal = λ variable coded. more_marks tokens variable bits (h.decimal word below variable coded);
}

-- a variable with such a word brings no more than these bits
bare_variable : OneWord → (ps : List Piece) (types words : List (List ℕ)) (f : Filter) → IsFilter ps types words f → (bits : ℕ) (kind : Kind) (word : ℕ) (variable : List ℕ) → BringsOpen f.tokens.items word bits → Has bits (marks_at f.marks word) → All (λ k. IsNoCode k word) f.tokens.items → HasWord words kind variable word
    → MarksVariable f.tokens.items variable bits
bare_variable one ps types words f is bits Whole word variable brings marks codes (n, coded, packs) =
    exact_marks one f.tokens.items variable (WholeWord (cast_signed w64 word)) bits (whole_coded variable n word coded packs) (are_coded ps f.tokens.items is.asks.are) (λ j d lt same. absurd ((codes j d lt).0 same))
    (brings.whole variable n coded packs)
bare_variable one ps types words f is bits Decimal word variable brings marks codes coded =
    exact_marks one f.tokens.items variable (DecimalWord word) bits coded (are_coded ps f.tokens.items is.asks.are) (λ j d lt same. absurd ((codes j d lt).1 same)) (brings.decimal variable coded)
bare_variable one ps types words f is bits Word word variable brings marks codes has = λ j d lt finds.
    has_through bits (marks_at f.marks word) (slice_index_or f.tokens.items j d).bit marks (is.marks word variable has.1 j d lt finds.0)

-- a row of which no word counts is rejected, where its log type needs one that does
bare_row : OneWord → RowsBring → (p : List Item) (types words : List (List ℕ)) (f : Filter) → IsFilter (wide_pieces p) types words f → (row : Row) (test : TypeTest) → slice_get f.tests.items row.log_type ≡ Some test → test.verdict ≡ Tried
    → LacksBare f.tokens.items test f.stamped f.wanted f.small.bound → ((place word : ℕ) → slice_get row.words place ≡ Some word → CountsNot f word) → IsRowVerdict (wide_pieces p) types words row Rejected
bare_row one law p types words f is row test at tried h none =
    lacks_bits law (wide_pieces p) types words f is row test h.bits at tried h.has (stamp_may f types words (wide_pieces p) is row h.bits h.stamps)
    (λ parts typed place kind word variable slot there has.
    bare_variable one (wide_pieces p) types words f is h.bits kind word variable (brings word (none place word there)) (unmarked (none place word there)) (none place word there).code has)
    h.lacks
  where
    unmarked : {word : ℕ} → CountsNot f word → Has h.bits (marks_at f.marks word)
    unmarked {word = word} c = subst (Has h.bits) (sym c.marks) (has_none h.bits)

    brings : (word : ℕ) → CountsNot f word → BringsOpen f.tokens.items word h.bits
    brings word c = elim (cases_lt 0 f.small.bound) [
      | inl some ↦ below_brings f.tokens.items f.small.bound word h.bits is.asks.small.bound (c.below some)
      | inr none ↦ open_brings f.tokens.items word h.bits (h.numbers (omega (arith, none)))
    ]

-- words without a mark beyond those of open tokens
pub open_words : (f : Filter) (words : List ℕ) (bits : ℕ) → HasEach f.marks words bits → Has f.numeric bits → All (λ k. All (IsNoCode k) words) f.tokens.items → All (IsOpenWord f) words
open_words f words bits each few codes j d lt =
    let word : ℕ = slice_index_or words j d in
    record {
      marks = has_through f.numeric bits (marks_at f.marks word) few (each word (j, lt, get_or_default words j word d lt));
      code = λ i e less. codes i e less j d lt;
    }

-- a row of such words is rejected, where its log type, numbers and its stamp do not suffice
pub row_open : OneWord → RowsBring → (p : List Item) (types words : List (List ℕ)) (f : Filter) → IsFilter (wide_pieces p) types words f → (row : Row) (test : TypeTest) → slice_get f.tests.items row.log_type ≡ Some test → test.verdict ≡ Tried
    → LacksHits f test row → IsRowVerdict (wide_pieces p) types words row Rejected
row_open one law p types words f is row test at tried h =
    lacks_bits law (wide_pieces p) types words f is row test h.bits at tried h.has (h.stamp is.asks.stamps)
    (λ parts typed place kind word variable slot there has.
    let own : IsOpenWord f word = here place word there in
    bare_variable one (wide_pieces p) types words f is h.bits kind word variable (open_brings f.tokens.items word h.bits openly) (has_through h.bits f.numeric (marks_at f.marks word) h.numeric own.marks) own.code has)
    h.lacks
  where
    openly : AreOpenBits f.tokens.items h.bits
    openly j d lt free = has_through h.bits f.numeric (slice_index_or f.tokens.items j d).bit h.numeric (is.asks.numeric j d lt free)

    here : (place word : ℕ) → slice_get row.words place ≡ Some word → IsOpenWord f word
    here place word there = subst (IsOpenWord f) (get_or_from_slice_get row.words place word 0 there) (h.words place 0 (slice_get_within row.words place word there))

pub needs_hit : OneWord → RowsBring → (f : Filter) (words : List ℕ) (start end hit t : ℕ) (need : Need) → need ≡ Hit → ((verdicts : List Verdict) → AreNeeds f verdicts f.needs.items → IsNeed f.tokens.items f.tests.items f.stamped f.wanted f.small.bound verdicts t need) → end ≤ hit
    → NoneCounts f words start hit → (row : Row) → row.log_type ≡ t → row.words ≡ slice_range words start end → (p : List Item) (names texts : List (List ℕ)) → IsFilter (wide_pieces p) names texts f → IsRowVerdict (wide_pieces p) names texts row Rejected
needs_hit one law f words start end hit t need same told past none row typed laid p names texts is =
    let (test, at, tried, h) = subst (IsNeed f.tokens.items f.tests.items f.stamped f.wanted f.small.bound f.verdicts.items t) same (told f.verdicts.items is.asks.needs) in
    bare_row one law p names texts f is row test (ap (slice_get f.tests.items) typed ∙ at) tried h (counts_in f words row.words start end hit laid past none)

pub needs_never : RejectedNeverMatches → CertainAlwaysMatches → RowsBring → (f : Filter) (t : ℕ) (need : Need) → need ≡ Never → ((verdicts : List Verdict) → AreNeeds f verdicts f.needs.items → IsNeed f.tokens.items f.tests.items f.stamped f.wanted f.small.bound verdicts t need)
    → (row : Row) → row.log_type ≡ t → (p : List Item) (names texts : List (List ℕ)) → IsSearched p → IsFilter (wide_pieces p) names texts f → IsRowVerdict (wide_pieces p) names texts row Rejected
needs_never rejected certain law f t need same told row typed p names texts searched is =
    let there : slice_get f.verdicts.items t ≡ Some Rejected = subst (IsNeed f.tokens.items f.tests.items f.stamped f.wanted f.small.bound f.verdicts.items t) same (told f.verdicts.items is.asks.needs) in
    told_verdict rejected certain law p searched names texts f is row Rejected (ap (slice_get f.verdicts.items) typed ∙ there)

-- ---- what is lacking

-- a row that lacks tokens, whose log type leaves it open
row_lacks_tokens : OneWord → RowsBring → (p : List Item) (types words : List (List ℕ)) (f : Filter) → IsFilter (wide_pieces p) types words f → (row : Row) (v : Verdict)
    → slice_get f.verdicts.items row.log_type ≡ Some v → v ≡ Tried → LacksTokens f row → IsRowVerdict (wide_pieces p) types words row Rejected
row_lacks_tokens one law p types words f is row v there tried (test, at, how) =
    let (other, here, told) = is.asks.told row.log_type v there in
    let same : other ≡ test = same_tests (slice_get f.tests.items row.log_type) other test here at in
    elim told [
      | inl is_told ↦
          let open_type : test.verdict ≡ Tried = ap (λ (t : TypeTest). t.verdict) (sym same) ∙ sym is_told ∙ tried in
          elim how [
            | inl hits ↦ row_open one law p types words f is row test at open_type hits
            | inr lacks ↦ row_lacks law p types words f is row test at open_type lacks
          ]
      | inr (never, why) ↦ absurd (let e : Rejected ≡ Tried = sym never ∙ tried in cc)
    ]
  where
    same_tests : (o : Option TypeTest) (a b : TypeTest) → o ≡ Some a → o ≡ Some b → a ≡ b
    same_tests o a b first second = cc (first, second)

-- and one that lacks runs or tokens
pub row_lacks_some : OneWord → RowsBring → (p : List Item) (types words : List (List ℕ)) (f : Filter) → IsFilter (wide_pieces p) types words f → (row : Row) (v : Verdict)
    → slice_get f.verdicts.items row.log_type ≡ Some v → v ≡ Tried → LacksStamp f row ⊎ LacksTokens f row → IsRowVerdict (wide_pieces p) types words row Rejected
row_lacks_some one law p types words f is row v there tried (inl (bits, marks, lacks)) = lacks_runs law.2 (wide_pieces p) types words f is.asks row bits (marks is.asks.run_stamps) lacks
row_lacks_some one law p types words f is row v there tried (inr tokens) = row_lacks_tokens one law p types words f is row v there tried tokens
