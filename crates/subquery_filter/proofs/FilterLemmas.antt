-- What the bits of a filter tell of rows.
use Rattle.std.proofs.Common.{◌≡◌, ◌≢◌, ℕ, zero, suc, ◌+◌, ◌<◌, ◌≤◌, false, true, List, [], ◌∷◌, ◌++◌, length, get_or, map, refl, sym, ◌∙◌, ap, subst, arith, inl, inr, length-append}
use Rattle.std.specs.Prelude.{◌⊎◌, Option, None, Some, Result, Ok, Err, IfOk, bit_and, bit_or, slice_get, slice_index_or}
use Rattle.std.specs.List.{Contains}
use Rattle.std.proofs.lemmas.Bool.{cases_Bool, cases_lt}
use Rattle.std.specs.Fmt.{signed_decimal}
use Rattle.std.specs.Int.{cast_signed, w64}
use Rattle.std.proofs.lemmas.List.{get_or_default, get_or_past}
use Rattle.std.proofs.lemmas.Option.{get_or_from_slice_get, slice_get_within}
use Rattle.std.proofs.lemmas.List.Elements.{All-push}
use Rattle.logtype_text.specs.declared.symbols.Kind.{Kind}
use Rattle.logtype_text.specs.declared.symbols.Kind.TheVariants.{Whole, Word, Decimal}
use Rattle.logtype_text.specs.Parts.{Part, symbol_of}
use Rattle.logtype_text.specs.TypeText.{type_text}
use Rattle.column_store.specs.declared.row.Row.{Row}
use Rattle.wild_match.specs.Matches.{Match}
use Rattle.wild_match.specs.declared.pattern.Item.{Item}
use Rattle.row_codec.specs.Means.{HasStampText, HasWord, IsCanonical}
use Rattle.row_codec.specs.Numbers.{numbers_of_row, word_numbers}
use Rattle.row_codec.proofs.EncoderLemmas.{slots}
use Rattle.segment_format.specs.declared.head.Head.{Head}
use Rattle.query_plan.specs.declared.pieces.Piece.{Piece}
use Rattle.query_plan.specs.Laws.{IsSearched}
use Rattle.query_plan.specs.Pieces.{flat, wide_pieces}
use Rattle.subquery_filter.specs.declared.run.Run.{Run}
use Rattle.subquery_filter.specs.declared.filter.Filter.{Filter}
use Rattle.subquery_filter.specs.declared.marks.WordMarks.{WordMarks}
use Rattle.subquery_filter.specs.declared.slots.Question.{Question}
use Rattle.subquery_filter.specs.declared.slots.Slot.{Slot}
use Rattle.subquery_filter.specs.declared.slots.Sums.{Sums}
use Rattle.subquery_filter.specs.declared.slots.TypeTest.{TypeTest}
use Rattle.subquery_filter.specs.declared.token.Token.{Token}
use Rattle.subquery_filter.specs.declared.verdicts.Verdict.{Verdict}
use Rattle.subquery_filter.specs.declared.verdicts.Verdict.TheVariants.{Rejected, Certain, Tried}
use Rattle.subquery_filter.specs.Filter.{AreSlots, AreSmall, AreSums, AreTests, AsksTypes, Covers, Gives, Has, HasNoMatch, IsAsked, IsFilter, IsListed, IsRight, IsRowVerdict, IsSlot, IsTest, LacksAll, LacksRuns, LacksText, RunMarks, StampMarks, MarksOpen, MarksVariable, marks_at, others_of, sum_at}
use Rattle.subquery_filter.specs.Asking.{IsQuestion}
use Rattle.subquery_filter.specs.StepsFilter.{AreTokens, HasEach, IsShut, Lacks, RunsBring, StampsBring, Stays}
use Rattle.subquery_filter.specs.StepsLetters.{kinds_in}
use Rattle.subquery_filter.specs.Tokens.{RowsBring, RowsBringChunks, StandsInType}
use Rattle.subquery_filter.specs.Verdicts.{CertainAlwaysMatches, IsCertain, IsRejected, RejectedNeverMatches}
use Rattle.subquery_filter.proofs.BitLemmas.{has_both, has_left, has_none, has_right, has_self, has_through, has_within}
use Rattle.subquery_filter.proofs.ClosedLemmas.{are_coded, token_found}
use Rattle.subquery_filter.proofs.BarrenLemmas.{contains_first, contains_rest, row_numbers}
use Rattle.subquery_filter.proofs.TokenLemmas.{kinds_are}

-- ---- loops

pub before_step : {X : Type 0} (xs : List X) (P Q : X → Type 0) (i : ℕ) (x : X) → i < length xs → x ≡ get_or xs i x → ((y : X) → P y → Q y) → Q x
    → ((k : ℕ) (d : X) → k < i → P (get_or xs k d)) → (k : ℕ) (d : X) → k < i + 1 → Q (get_or xs k d)
before_step xs P Q i x lt is weaker here before k d below = elim (cases_lt k i) [
  | inl less ↦ weaker (get_or xs k d) (before k d less)
  | inr past ↦
      let same : i ≡ k = omega (arith, below, past) in
      subst (λ j. Q (get_or xs j d)) same (subst Q (is ∙ get_or_default xs i x d lt) here)
]

-- the bit of each token so far of which P holds is among these
abbrev pub EachBefore : (Token → Type 0) → List Token → ℕ → ℕ → Type 0
EachBefore P tokens i bits = (k : ℕ) (d : Token) → k < i → P (get_or tokens k d) → Has bits (get_or tokens k d).bit

pub each_step : (P : Token → Type 0) (tokens : List Token) (i bits mark : ℕ) (token : Token) → i < length tokens → token ≡ get_or tokens i token → (P token → mark ≡ token.bit)
    → EachBefore P tokens i bits → EachBefore P tokens (i + 1) (bit_or bits mark)
each_step P tokens i bits mark token lt is marks before =
    before_step tokens (λ (k : Token). P k → Has bits k.bit) (λ (k : Token). P k → Has (bit_or bits mark) k.bit) i token lt is
    (λ k f m. has_left bits mark k.bit (f m)) (λ m. subst (Has (bit_or bits mark)) (marks m) (has_right bits mark)) before

-- bits that are among any that have those of the tokens so far
abbrev pub WantedBefore : List Token → ℕ → ℕ → Type 0
WantedBefore tokens i bits = (all : ℕ) → ((k : ℕ) (d : Token) → k < i → Has all (get_or tokens k d).bit) → Has all bits

pub wanted_step : (tokens : List Token) (i bits : ℕ) (token : Token) → token ≡ get_or tokens i token → WantedBefore tokens i bits → WantedBefore tokens (i + 1) (bit_or bits token.bit)
wanted_step tokens i bits token is before all each =
    has_both all bits token.bit (before all (λ k d lt. each k d (omega (arith, lt))))
    (subst (λ (k : Token). Has all k.bit) (sym is) (each i token (omega arith)))

abbrev pub HasBefore : WordMarks → List ℕ → ℕ → ℕ → Type 0
HasBefore marks numbers i bits = (k d : ℕ) → k < i → Has bits (marks_at marks (get_or numbers k d))

has_step : (marks : WordMarks) (numbers : List ℕ) (i bits mark number : ℕ) → i < length numbers → number ≡ get_or numbers i number → mark ≡ marks_at marks number
    → HasBefore marks numbers i bits → HasBefore marks numbers (i + 1) (bit_or bits mark)
has_step marks numbers i bits mark number lt is read before =
    before_step numbers (λ (n : ℕ). Has bits (marks_at marks n)) (λ (n : ℕ). Has (bit_or bits mark) (marks_at marks n)) i number lt is
    (λ n h. has_left bits mark (marks_at marks n) h) (subst (Has (bit_or bits mark)) read (has_right bits mark)) before

pub has_next : (marks : WordMarks) (numbers : List ℕ) (i bits mark : ℕ) → i < length numbers → mark ≡ marks_at marks (get_or numbers i 0)
    → HasBefore marks numbers i bits → HasBefore marks numbers (i + 1) (bit_or bits mark)
has_next marks numbers i bits mark lt read before =
    has_step marks numbers i bits mark (get_or numbers i 0) lt (get_or_default numbers i 0 (get_or numbers i 0) lt) read before

pub has_end : (marks : WordMarks) (numbers : List ℕ) (i bits : ℕ) → length numbers ≤ i → HasBefore marks numbers i bits → HasEach marks numbers bits
has_end marks numbers i bits le before n (k, lt, e) = subst (λ (x : ℕ). Has bits (marks_at marks x)) e (before k n (omega (arith, lt, le)))

-- the bits of the numbers so far are among these
abbrev pub AnyBefore : List ℕ → ℕ → ℕ → Type 0
AnyBefore marks i bits = (k d : ℕ) → k < i → Has bits (get_or marks k d)

pub any_step : (marks : List ℕ) (i bits : ℕ) → i < length marks → AnyBefore marks i bits → AnyBefore marks (i + 1) (bit_or bits (get_or marks i 0))
any_step marks i bits lt before =
    let here = get_or marks i 0 in
    before_step marks (λ (n : ℕ). Has bits n) (λ (n : ℕ). Has (bit_or bits here) n) i here lt (get_or_default marks i 0 here lt) (λ n h. has_left bits here n h) (has_right bits here) before

pub any_end : (marks : List ℕ) (i bits : ℕ) → length marks ≤ i → AnyBefore marks i bits → (n : ℕ) → Has bits (get_or marks n 0)
any_end marks i bits le before n = elim (cases_lt n i) [
  | inl less ↦ before n 0 less
  | inr past ↦ subst (Has bits) (sym (get_or_past marks n 0 (omega (arith, le, past)))) (has_none bits)
]

-- the log types so far are shut
abbrev pub ShutBefore : Filter → ℕ → ℕ → ℕ → List ℕ → ℕ → Type 0
ShutBefore f runs stamped brought types i = (k d : ℕ) → k < i → IsShut f runs stamped brought (get_or types k d)

pub shut_step : (f : Filter) (runs stamped brought : ℕ) (types : List ℕ) (i : ℕ) → i < length types → IsShut f runs stamped brought (get_or types i 0) → ShutBefore f runs stamped brought types i
    → ShutBefore f runs stamped brought types (i + 1)
shut_step f runs stamped brought types i lt here before =
    before_step types (λ (n : ℕ). IsShut f runs stamped brought n) (λ (n : ℕ). IsShut f runs stamped brought n) i (get_or types i 0) lt (get_or_default types i 0 (get_or types i 0) lt) (λ n h. h) here before

pub shut_end : (f : Filter) (runs stamped brought : ℕ) (types : List ℕ) (i : ℕ) → length types ≤ i → ShutBefore f runs stamped brought types i → (t : ℕ) → Contains types t → IsShut f runs stamped brought t
shut_end f runs stamped brought types i le before t (k, lt, e) = subst (λ (x : ℕ). IsShut f runs stamped brought x) e (before k t (omega (arith, lt, le)))

some_same : (o : Option (List ℕ)) (a b : List ℕ) → o ≡ Some a → o ≡ Some b → a ≡ b
some_same o a b one two = cc (one, two)

pub push_cases : {X : Type 0} (old : List X) (x : X) (n : ℕ) (y : X) → slice_get (old ++ x ∷ []) n ≡ Some y → (slice_get old n ≡ Some y) ⊎ ((n ≡ length old) × (x ≡ y))
push_cases [] x zero y is = inr (refl, cc (is))
push_cases [] x (suc n) y is = absurd (cc is)
push_cases (o ∷ old) x zero y is = inl is
push_cases (o ∷ old) x (suc n) y is = elim (push_cases old x n y is) [
  | inl there ↦ inl there
  | inr (e, same) ↦ inr (ap suc e, same)
]

pub push_got : {X : Type 0} (old : List X) (x : X) (n : ℕ) (y : X) → slice_get old n ≡ Some y → slice_get (old ++ x ∷ []) n ≡ Some y
push_got [] x n y is = absurd (cc is)
push_got (o ∷ old) x zero y is = is
push_got (o ∷ old) x (suc n) y is = push_got old x n y is

pub push_last : {X : Type 0} (old : List X) (x : X) → slice_get (old ++ x ∷ []) (length old) ≡ Some x
push_last [] x = refl
push_last (o ∷ old) x = push_last old x

pub listed_stays : (tokens : List Token) (old new : List Slot) (first end place : ℕ) (kind : Kind) → Stays old new → IsListed tokens old first end place kind → (more : ℕ) → end ≤ more → IsListed tokens new first more place kind
listed_stays tokens old new first end place kind stays h more le =
    record { at = h.at; from = h.from; to = omega (arith, h.to, le); slot = h.slot; is = stays h.at h.slot h.is; same_place = h.same_place; same_kind = h.same_kind; covers = h.covers }

pub slot_stays : (tokens : List Token) (old new : List Slot) (first end known place : ℕ) (kind : Kind) → Stays old new → (more : ℕ) → end ≤ more → IsSlot tokens old first end known place kind → IsSlot tokens new first more known place kind
slot_stays tokens old new first end known place kind stays more le (inl h) = inl (listed_stays tokens old new first end place kind stays h more le)
slot_stays tokens old new first end known place kind stays more le (inr h) = inr h

test_stays : (ps : List Piece) (tokens : List Token) (others : ℕ) (old new : List Slot) (text : List ℕ) (test : TypeTest) → Stays old new → IsTest ps tokens others old text test → IsTest ps tokens others new text test
test_stays ps tokens others old new text test stays h = record {
  right = h.right;
  gives = h.gives;
  slots_are = λ tried listed place kind at. slot_stays tokens old new test.first test.end test.has place kind stays test.end (omega arith) (h.slots_are tried listed place kind at);
  sums_are = h.sums_are;
}

pub tests_step : (ps : List Piece) (tokens : List Token) (others : ℕ) (types : List (List ℕ)) (count : ℕ) (slots more : List Slot) (old new : List TypeTest) (text : List ℕ) (test : TypeTest) → length old ≡ count → new ≡ old ++ test ∷ [] → slice_get types count ≡ Some text
    → Stays slots more → IsTest ps tokens others more text test → AreTests ps tokens others types slots old → AreTests ps tokens others types more new
tests_step ps tokens others types count slots more old new text test size is there stays here before t other found type_is test_is =
    elim (push_cases old test t found (subst (λ (l : List TypeTest). slice_get l t ≡ Some found) is test_is)) [
      | inl earlier ↦ test_stays ps tokens others slots more other found stays (before t other found type_is earlier)
      | inr (e, same) ↦
          let texts : text ≡ other = some_same (slice_get types count) text other there (ap (λ (j : ℕ). slice_get types j) (sym (e ∙ size)) ∙ type_is) in
          subst (λ (x : TypeTest). IsTest ps tokens others more other x) same (subst (λ x. IsTest ps tokens others more x test) texts here)
    ]

pub tests_none : (ps : List Piece) (tokens : List Token) (others : ℕ) (types : List (List ℕ)) (slots : List Slot) (tests : List TypeTest) → tests ≡ [] → AreTests ps tokens others types slots tests
tests_none ps tokens others types slots tests none t text test found at = absurd (let e : None ≡ Some test = ap (λ (l : List TypeTest). slice_get l t) (sym none) ∙ at in cc)

pub small_step : (tokens : List Token) (count : ℕ) (old new : List ℕ) (mark : ℕ) → length old ≡ count → new ≡ old ++ mark ∷ [] → MarksOpen tokens (signed_decimal (cast_signed w64 count)) mark → AreSmall tokens old → AreSmall tokens new
small_step tokens count old new mark size is marks before n bits at =
    elim (push_cases old mark n bits (subst (λ (l : List ℕ). slice_get l n ≡ Some bits) is at)) [
      | inl earlier ↦ before n bits earlier
      | inr (e, same) ↦ subst (λ (b : ℕ). MarksOpen tokens (signed_decimal (cast_signed w64 n)) b) same (subst (λ (j : ℕ). MarksOpen tokens (signed_decimal (cast_signed w64 j)) mark) (sym (e ∙ size)) marks)
    ]

pub small_none : (tokens : List Token) (small : List ℕ) → small ≡ [] → AreSmall tokens small
small_none tokens small none n bits at = absurd (let e : None ≡ Some bits = ap (λ (l : List ℕ). slice_get l n) (sym none) ∙ at in cc)

pub grown : {X : Type 0} (old new : List X) (x : X) (n : ℕ) → length old ≡ n → new ≡ old ++ x ∷ [] → length new ≡ n + 1
grown old new x n size is = omega (arith, size, ap length is, length-append old (x ∷ []))

pub right_verdict : (ps : List Piece) (tokens : List Token) (others : ℕ) (text : List ℕ) (v : Verdict) → ((parts : List Part) → text ≡ type_text (map symbol_of parts) → v ≡ Rejected → IsRejected ps parts)
    → ((parts : List Part) → text ≡ type_text (map symbol_of parts) → v ≡ Certain → IsCertain ps parts) → IsRight ps tokens others text v
right_verdict ps tokens others text Rejected rejected certain = inl (λ parts is. rejected parts is refl)
right_verdict ps tokens others text Certain rejected certain = λ parts is. certain parts is refl
right_verdict ps tokens others text Tried rejected certain = tt

-- a log type of which all is told
pub closed_is : (ps : List Piece) (tokens : List Token) (others : ℕ) (slots : List Slot) (text : List ℕ) (test : TypeTest) (v : Verdict) → test.verdict ≡ v → v ≢ Tried → IsRight ps tokens others text v → IsTest ps tokens others slots text test
closed_is ps tokens others slots text test v is other right = record {
  right = subst (IsRight ps tokens others text) (sym is) right;
  gives = λ tried. absurd (other (sym is ∙ tried));
  slots_are = λ tried. absurd (other (sym is ∙ tried));
  sums_are = λ tried. absurd (other (sym is ∙ tried));
}

-- and one whose slots are listed
pub open_is : (ps : List Piece) (tokens : List Token) (others : ℕ) (slots : List Slot) (text : List ℕ) (test : TypeTest) → test.verdict ≡ Tried → Gives tokens text test.has → AreSlots tokens text slots test.first test.end test.has
    → AreSums tokens text test.has test.sums → IsTest ps tokens others slots text test
open_is ps tokens others slots text test tried gives are sums = record {
  right = subst (IsRight ps tokens others text) (sym tried) tt;
  gives = λ same. gives;
  slots_are = λ same listed. are;
  sums_are = λ same. sums;
}

-- and one whose slots are not
pub unlisted_is : (ps : List Piece) (tokens : List Token) (others : ℕ) (slots : List Slot) (text : List ℕ) (test : TypeTest) → test.verdict ≡ Tried → test.listed ≡ false → Gives tokens text test.has
    → ((kind : Kind) → Covers tokens kind (sum_at kind test.sums)) → IsTest ps tokens others slots text test
unlisted_is ps tokens others slots text test tried unlisted gives covers = record {
  right = subst (IsRight ps tokens others text) (sym tried) tt;
  gives = λ same. gives;
  slots_are = λ same listed. absurd (let e : false ≡ true = sym unlisted ∙ listed in cc);
  sums_are = λ same place kind at words variable word is j d lt m. has_through (bit_or test.has (sum_at kind test.sums)) (sum_at kind test.sums) _ (has_right test.has (sum_at kind test.sums)) (covers kind words variable word is j d lt m);
}

-- what a test is told of by its slots, for one list of tokens
pub test_told : {E : Type 0} (tokens : List Token) (question : Question) (slots : List Slot) (text : List ℕ) (known : ℕ) (r : Result TypeTest E) → Gives tokens text known
    → IfOk r (λ test. (ps : List Piece) (looked : List Token) → IsQuestion ps looked question → Gives looked text known → IsTest ps looked question.others slots text test)
    → IfOk r (λ test. (ps : List Piece) → IsQuestion ps tokens question → IsTest ps tokens question.others slots text test)
test_told tokens question slots text known (Ok test) gives told = λ ps is. told ps tokens is gives
test_told tokens question slots text known (Err e) gives told = tt

pub tokens_push : (ps : List Piece) (old new : List Token) (token : Token) → new ≡ old ++ token ∷ [] → IsAsked ps token → AreTokens ps old → AreTokens ps new
tokens_push ps old new token is asked are = subst (AreTokens ps) (sym is) (All-push (IsAsked ps) old token are asked)

-- ---- a row's dictionary numbers

number_among : (kinds : List Kind) (row : List ℕ) (place word : ℕ) → slice_get kinds place ≡ Some Word → slice_get row place ≡ Some word → Contains (word_numbers kinds row) word
number_among [] row place word kind at = absurd (cc kind)
number_among (k ∷ kinds) [] place word kind at = absurd (cc at)
number_among (Word ∷ kinds) (w ∷ row) zero word kind at = contains_first w word (word_numbers kinds row) (cc (at))
number_among (Whole ∷ kinds) (w ∷ row) zero word kind at = absurd (cc kind)
number_among (Decimal ∷ kinds) (w ∷ row) zero word kind at = absurd (cc kind)
number_among (Word ∷ kinds) (w ∷ row) (suc place) word kind at = contains_rest w word (word_numbers kinds row) (number_among kinds row place word kind at)
number_among (Whole ∷ kinds) (w ∷ row) (suc place) word kind at = number_among kinds row place word kind at
number_among (Decimal ∷ kinds) (w ∷ row) (suc place) word kind at = number_among kinds row place word kind at

pub row_number : (types : List (List ℕ)) (row : Row) (parts : List Part) → slice_get types row.log_type ≡ Some (type_text (map symbol_of parts)) → (place word : ℕ)
    → slice_get (kinds_in false (type_text (map symbol_of parts))) place ≡ Some Word → slice_get row.words place ≡ Some word → Contains (numbers_of_row types row) word
row_number types row parts typed place word kind at =
    subst (λ l. Contains l word) (sym (row_numbers types row parts typed))
    (number_among (slots parts) row.words place word (subst (λ (l : List Kind). slice_get l place ≡ Some Word) (kinds_are parts) kind) at)

-- ---- what bits tell of a row

-- these bits are all that a row brings by its variables
abbrev pub ByVariables : Filter → List (List ℕ) → List ℕ → List ℕ → ℕ → Type 0
ByVariables f words text row bits =
    (place : ℕ) (kind : Kind) (word : ℕ) (variable : List ℕ) → slice_get (kinds_in false text) place ≡ Some kind → slice_get row place ≡ Some word
    → HasWord words kind variable word → MarksVariable f.tokens.items variable bits

-- a row that does not bring all that is wanted is not matched
pub lacks_bits : RowsBring → (ps : List Piece) (types words : List (List ℕ)) (f : Filter) → IsFilter ps types words f → (row : Row) (test : TypeTest) (bits : ℕ)
    → slice_get f.tests.items row.log_type ≡ Some test → test.verdict ≡ Tried → Has bits test.has
    → ((s : List ℕ) → HasStampText row.pattern row.moment s → StampMarks f.tokens.items s bits)
    → ((parts : List Part) → slice_get types row.log_type ≡ Some (type_text (map symbol_of parts)) → ByVariables f words (type_text (map symbol_of parts)) row.words bits)
    → ¬ Has bits f.wanted → (version : ℕ) (message : List ℕ) → IsCanonical version row types words message → ¬ Match (flat ps) message
lacks_bits law ps types words f is row test bits at tried has stamp variables lacks version message canonical matches =
    let text = type_text (map symbol_of canonical.means.parts) in
    let typed = canonical.means.typed in
    let here = is.asks.tests row.log_type text test typed at in
    lacks (is.asks.wanted bits (λ j d lt.
    let k : Token = slice_index_or f.tokens.items j d in
    elim (token_found law version ps row types words text message k is.asks.cut canonical matches (is.asks.are j d lt) typed) [
      | inl (s, stamped, fits) ↦ stamp s stamped j d lt fits
      | inr (inl there) ↦ has_through bits test.has k.bit has (here.gives tried (map symbol_of canonical.means.parts, refl) j d lt there)
      | inr (inr v) ↦ variables canonical.means.parts typed v.place v.kind v.word v.variable v.slot v.at v.has j d lt v.finds
    ]))

pub row_lacks : RowsBring → (p : List Item) (types words : List (List ℕ)) (f : Filter) → IsFilter (wide_pieces p) types words f → (row : Row) (test : TypeTest)
    → slice_get f.tests.items row.log_type ≡ Some test → test.verdict ≡ Tried → Lacks f test row → IsRowVerdict (wide_pieces p) types words row Rejected
row_lacks law p types words f is row test at tried h =
    lacks_bits law (wide_pieces p) types words f is row test h.bits at tried h.has (h.stamp is.asks.stamps)
    (λ parts typed place kind word variable slot there has j d lt fits.
    let k : Token = slice_index_or f.tokens.items j d in
    let here = is.asks.tests row.log_type (type_text (map symbol_of parts)) test typed at in
    let coded = are_coded (wide_pieces p) f.tokens.items is.asks.are in
    elim (cases_Bool test.listed) [
      | inl listed ↦ elim (here.slots_are tried listed place kind slot) [
        | inl l ↦
            let same : (x : Kind) → x ≡ kind → HasWord words x variable word = λ x e. subst (λ (y : Kind). HasWord words y variable word) (sym e) has in
            h.brings.slots listed l.at l.from l.to l.slot word l.is (subst (λ (n : ℕ). slice_get row.words n ≡ Some word) (sym l.same_place) there) words variable
            (λ w. is.marks) is.asks.brought is.asks.small is.asks.numbers coded (same l.slot.kind l.same_kind) j d lt fits (l.covers words variable word has j d lt fits)
        | inr covered ↦ has_through h.bits test.has k.bit h.has (covered words variable word has j d lt fits)
      ]
      | inr unlisted ↦
          let mine : Slot = record { place = place; kind = kind; bits = k.bit } in
          h.brings.unlisted unlisted place word there mine words variable (λ w. is.marks) is.asks.brought is.asks.small is.asks.numbers coded has j d lt fits (has_self k.bit)
    ])
    h.lacks

pub stamp_may : (f : Filter) (types words : List (List ℕ)) (ps : List Piece) → IsFilter ps types words f → (row : Row) (bits : ℕ) → Has bits f.stamped → (s : List ℕ) → HasStampText row.pattern row.moment s → StampMarks f.tokens.items s bits
stamp_may f types words ps is row bits has s stamped = λ j d lt fits.
    has_through bits f.stamped (slice_index_or f.tokens.items j d).bit has
    (has_through f.stamped (slice_index_or f.stamps.items row.pattern 0) (slice_index_or f.tokens.items j d).bit (is.asks.stamped row.pattern) (is.asks.stamps row.pattern row.moment s stamped j d lt fits))

-- what a variable of a row brings is among what numbers and words bring
variable_may : (f : Filter) (types words : List (List ℕ)) (ps : List Piece) → IsFilter ps types words f → (bits : ℕ) → Has bits f.numbers → Has bits f.brought → (kind : Kind) (word : ℕ) (variable : List ℕ) → HasWord words kind variable word
    → MarksVariable f.tokens.items variable bits
variable_may f types words ps is bits by_numbers by_words Whole word variable has j d lt finds =
    has_through bits f.numbers (slice_index_or f.tokens.items j d).bit by_numbers (is.asks.numbers Whole (λ e. cc (e)) words variable word has j d lt finds)
variable_may f types words ps is bits by_numbers by_words Decimal word variable has j d lt finds =
    has_through bits f.numbers (slice_index_or f.tokens.items j d).bit by_numbers (is.asks.numbers Decimal (λ e. cc (e)) words variable word has j d lt finds)
variable_may f types words ps is bits by_numbers by_words Word word variable has j d lt finds =
    has_through bits f.brought (slice_index_or f.tokens.items j d).bit by_words
    (has_through f.brought (marks_at f.marks word) (slice_index_or f.tokens.items j d).bit (is.asks.brought word) (is.marks word variable has.1 j d lt finds.0))

-- a row of a log type whose text lacks what no stamp, no number and no word brings
lacking_row : RowsBring → (ps : List Piece) (types words : List (List ℕ)) (f : Filter) → IsFilter ps types words f → (row : Row) (text : List ℕ) → slice_get types row.log_type ≡ Some text
    → LacksText f.tokens.items (others_of f) text → (version : ℕ) (message : List ℕ) → IsCanonical version row types words message → ¬ Match (flat ps) message
lacking_row law ps types words f is row text here h version message canonical matches =
    let both : ℕ = bit_or f.stamped f.numbers in
    let others : ℕ = bit_or both f.brought in
    let by_words : Has others f.brought = has_right both f.brought in
    let by_numbers : Has others f.numbers = has_left both f.brought f.numbers (has_right f.stamped f.numbers) in
    let by_stamps : Has others f.stamped = has_left both f.brought f.stamped (has_left f.stamped f.numbers f.stamped (has_self f.stamped)) in
    let symbols = map symbol_of canonical.means.parts in
    let same : type_text symbols ≡ text = some_same (slice_get types row.log_type) (type_text symbols) text canonical.means.typed here in
    let within : h.place < length f.tokens.items = slice_get_within f.tokens.items h.place h.token h.is in
    let k : Token = slice_index_or f.tokens.items h.place h.token in
    let it : k ≡ h.token = get_or_from_slice_get f.tokens.items h.place h.token h.token h.is in
    let left : ¬ Has others k.bit = subst (λ (x : Token). ¬ Has others x.bit) (sym it) h.left in
    elim (token_found law version ps row types words text message k is.asks.cut canonical matches (is.asks.are h.place h.token within) here) [
      | inl (s, stamped, fits) ↦ left (stamp_may f types words ps is row others by_stamps s stamped h.place h.token within fits)
      | inr (inl there) ↦ h.lacks (symbols, same) (subst (λ (x : Token). StandsInType x.matcher.items text) it there)
      | inr (inr v) ↦ left (variable_may f types words ps is others by_numbers by_words v.kind v.word v.variable v.has h.place h.token within v.finds)
    ]

rejected_row : RejectedNeverMatches → RowsBring → (p : List Item) → IsSearched p → (types words : List (List ℕ)) (f : Filter) → IsFilter (wide_pieces p) types words f → (row : Row) (test : TypeTest)
    → slice_get f.tests.items row.log_type ≡ Some test → test.verdict ≡ Rejected → IsRowVerdict (wide_pieces p) types words row Rejected
rejected_row law bring p searched types words f is row test at rejected version message canonical =
    let text = type_text (map symbol_of canonical.means.parts) in
    let right = subst (IsRight (wide_pieces p) f.tokens.items (others_of f) text) rejected (is.asks.tests row.log_type text test canonical.means.typed at).right in
    elim right [
      | inl never ↦ law version p row types words canonical.means.parts message searched canonical.means.typed (never canonical.means.parts refl) canonical
      | inr h ↦ lacking_row bring (wide_pieces p) types words f is row text canonical.means.typed h version message canonical
    ]

certain_row : CertainAlwaysMatches → (p : List Item) (types words : List (List ℕ)) (f : Filter) → AsksTypes (wide_pieces p) types f → (row : Row) (test : TypeTest)
    → slice_get f.tests.items row.log_type ≡ Some test → test.verdict ≡ Certain → IsRowVerdict (wide_pieces p) types words row Certain
certain_row law p types words f asks row test at certain message spelled =
    let text = type_text (map symbol_of spelled.parts) in
    let right = subst (IsRight (wide_pieces p) f.tokens.items (others_of f) text) certain (asks.tests row.log_type text test spelled.typed at).right in
    law (wide_pieces p) row types words spelled.parts message spelled.typed (right spelled.parts refl) spelled

verdict_by : RejectedNeverMatches → CertainAlwaysMatches → RowsBring → (p : List Item) → IsSearched p → (types words : List (List ℕ)) (f : Filter) → IsFilter (wide_pieces p) types words f → (row : Row) (test : TypeTest) (v : Verdict)
    → slice_get f.tests.items row.log_type ≡ Some test → test.verdict ≡ v → IsRowVerdict (wide_pieces p) types words row v
verdict_by rejected certain bring p searched types words f is row test Rejected at same = rejected_row rejected bring p searched types words f is row test at same
verdict_by rejected certain bring p searched types words f is row test Certain at same = certain_row certain p types words f is.asks row test at same
verdict_by rejected certain bring p searched types words f is row test Tried at same = tt

row_verdict : RejectedNeverMatches → CertainAlwaysMatches → RowsBring → (p : List Item) → IsSearched p → (types words : List (List ℕ)) (f : Filter) → IsFilter (wide_pieces p) types words f → (row : Row) (test : TypeTest)
    → slice_get f.tests.items row.log_type ≡ Some test → IsRowVerdict (wide_pieces p) types words row test.verdict
row_verdict rejected certain bring p searched types words f is row test at = verdict_by rejected certain bring p searched types words f is row test test.verdict at refl

-- ---- what runs tell of a row

-- a row of a log type that leaves a run to stamps, where its own has no more runs than these
pub lacks_runs : RowsBringChunks → (ps : List Piece) (types words : List (List ℕ)) (f : Filter) → AsksTypes ps types f → (row : Row) (bits : ℕ)
    → ((s : List ℕ) → HasStampText row.pattern row.moment s → RunMarks f.runs.items s bits) → LacksRuns f bits row.log_type
    → (version : ℕ) (message : List ℕ) → IsCanonical version row types words message → ¬ Match (flat ps) message
lacks_runs law ps types words f asks row bits marks lacks version message canonical matches =
    let text = type_text (map symbol_of canonical.means.parts) in
    let typed = canonical.means.typed in
    lacks (asks.alone row.log_type text typed bits (λ j d lt not_stand not_go.
    let r : Run = slice_index_or f.runs.items j d in
    let (s, stamped, there) = law version ps row types words text message r.text asks.cut canonical matches (asks.runs j d lt) typed not_stand not_go in
    marks s stamped j d lt there))

-- ---- what they tell of a segment

-- what a variable of a row brings is among what is known of its log type and what its slots may bring in sum
may_sum : (f : Filter) (types words : List (List ℕ)) (ps : List Piece) → IsFilter ps types words f → (sums : Sums) (known brought bits : ℕ) (numbers : List ℕ) → HasEach f.marks numbers brought
    → Has bits known → Has bits sums.numbers → Has bits (bit_and sums.words brought) → (kind : Kind) → Covers f.tokens.items kind (bit_or known (sum_at kind sums))
    → (word : ℕ) (variable : List ℕ) → (kind ≡ Word → Contains numbers word) → HasWord words kind variable word → MarksVariable f.tokens.items variable bits
may_sum f types words ps is sums known brought bits numbers each own by_numbers by_words Whole covers word variable listed has =
    λ j d lt fits. has_through bits (bit_or known sums.numbers) (slice_index_or f.tokens.items j d).bit (has_both bits known sums.numbers own by_numbers) (covers words variable word has j d lt fits)
may_sum f types words ps is sums known brought bits numbers each own by_numbers by_words Decimal covers word variable listed has =
    λ j d lt fits. has_through bits (bit_or known sums.numbers) (slice_index_or f.tokens.items j d).bit (has_both bits known sums.numbers own by_numbers) (covers words variable word has j d lt fits)
may_sum f types words ps is sums known brought bits numbers each own by_numbers by_words Word covers word variable listed has =
    λ j d lt fits. has_within bits known sums.words brought (slice_index_or f.tokens.items j d).bit own by_words (covers words variable word has j d lt fits)
    (has_through brought (marks_at f.marks word) (slice_index_or f.tokens.items j d).bit (each word (listed refl)) (is.marks word variable has.1 j d lt fits.0))

-- a row of a log type that brings less than is wanted, where the row's stamp and its words bring no more than these
-- bits
row_shut : RowsBring → (p : List Item) (types words : List (List ℕ)) (f : Filter) → IsFilter (wide_pieces p) types words f → (row : Row) (test : TypeTest) (stamped brought : ℕ)
    → slice_get f.tests.items row.log_type ≡ Some test → test.verdict ≡ Tried → LacksAll f test stamped brought
    → ((s : List ℕ) → HasStampText row.pattern row.moment s → StampMarks f.tokens.items s stamped) → HasEach f.marks (numbers_of_row types row) brought → IsRowVerdict (wide_pieces p) types words row Rejected
row_shut law p types words f is row test stamped brought at tried h stamp each version message canonical =
    lacks_bits law (wide_pieces p) types words f is row test h.bits at tried h.has (stamp_more_bits f.tokens.items row stamped h.bits h.stamps stamp)
    (λ parts typed place kind word variable slot there has.
    may_sum f types words (wide_pieces p) is test.sums test.has brought h.bits (numbers_of_row types row) each h.has h.numbers h.words kind
    ((is.asks.tests row.log_type (type_text (map symbol_of parts)) test typed at).sums_are tried place kind slot) word variable
    (λ w. row_number types row parts typed place word (subst (λ (k : Kind). slice_get (kinds_in false (type_text (map symbol_of parts))) place ≡ Some k) w slot) there) has)
    h.lacks version message canonical
  where
    stamp_more_bits : (tokens : List Token) (row : Row) (few bits : ℕ) → Has bits few → ((s : List ℕ) → HasStampText row.pattern row.moment s → StampMarks tokens s few)
        → (s : List ℕ) → HasStampText row.pattern row.moment s → StampMarks tokens s bits
    stamp_more_bits tokens row few bits has marks s stamped = λ j d lt fits. has_through bits few (slice_index_or tokens j d).bit has (marks s stamped j d lt fits)

pub none_may : RejectedNeverMatches → RowsBring → (p : List Item) → IsSearched p → (types words : List (List ℕ)) (f : Filter) → IsFilter (wide_pieces p) types words f
    → (head : Head) (listed numbers : List ℕ) (runs stamped brought : ℕ) → listed ≡ head.types → numbers ≡ head.words → RunsBring f head runs → StampsBring f head stamped → HasEach f.marks numbers brought
    → ((t : ℕ) → Contains listed t → IsShut f runs stamped brought t) → HasNoMatch (wide_pieces p) types words head
none_may rejected law p searched types words f is head listed numbers runs stamped brought of_types of_words bring_runs bring each shut version row message may canonical =
    elim (shut row.log_type (subst (λ (l : List ℕ). Contains l row.log_type) (sym of_types) may.listed)) [
      | inl alone ↦ lacks_runs law.2 (wide_pieces p) types words f is.asks row runs (λ s printed. bring_runs row.pattern row.moment s may.within printed) alone version message canonical
      | inr (test, at, inl never) ↦ rejected_row rejected law p searched types words f is row test at never version message canonical
      | inr (test, at, inr (tried, h)) ↦
          row_shut law p types words f is row test stamped brought at tried h (λ s printed. bring is.asks.stamps row.pattern row.moment s may.within printed)
          (λ n has. each n (subst (λ (l : List ℕ). Contains l n) (sym of_words) (may.words n has))) version message canonical
    ]

-- ---- what is told of all rows of a log type

-- the stamp of a row has no more runs than stamps of any pattern
any_runs : (f : Filter) (ps : List Piece) (types : List (List ℕ)) → AsksTypes ps types f → (row : Row) (s : List ℕ) → HasStampText row.pattern row.moment s → RunMarks f.runs.items s f.run_stamped
any_runs f ps types asks row s stamped j d lt there =
    has_through f.run_stamped (slice_index_or f.run_stamps.items row.pattern 0) (slice_index_or f.runs.items j d).bit (asks.run_stamped row.pattern) (asks.run_stamps row.pattern row.moment s stamped j d lt there)

pub told_verdict : RejectedNeverMatches → CertainAlwaysMatches → RowsBring → (p : List Item) → IsSearched p → (types words : List (List ℕ)) (f : Filter) → IsFilter (wide_pieces p) types words f → (row : Row) (v : Verdict)
    → slice_get f.verdicts.items row.log_type ≡ Some v → IsRowVerdict (wide_pieces p) types words row v
told_verdict rejected certain law p searched types words f is row v there =
    let (test, at, how) = is.asks.told row.log_type v there in
    elim how [
      | inl same ↦ subst (IsRowVerdict (wide_pieces p) types words row) (sym same) (row_verdict rejected certain law p searched types words f is row test at)
      | inr (never, inl (tried, h)) ↦
          subst (IsRowVerdict (wide_pieces p) types words row) (sym never)
          (row_shut law p types words f is row test f.stamped f.brought at tried h (stamp_may f types words (wide_pieces p) is row f.stamped (has_self f.stamped)) (λ n has. is.asks.brought n))
      | inr (never, inr alone) ↦
          subst (IsRowVerdict (wide_pieces p) types words row) (sym never)
          (lacks_runs law.2 (wide_pieces p) types words f is.asks row f.run_stamped (λ s stamped. any_runs f (wide_pieces p) types is.asks row s stamped) alone)
    ]

pub told_certain : CertainAlwaysMatches → (p : List Item) (types words : List (List ℕ)) (f : Filter) → AsksTypes (wide_pieces p) types f → (row : Row) (v : Verdict)
    → slice_get f.verdicts.items row.log_type ≡ Some v → v ≡ Certain → IsRowVerdict (wide_pieces p) types words row Certain
told_certain certain p types words f asks row v there is_certain =
    let (test, at, how) = asks.told row.log_type v there in
    elim how [
      | inl same ↦ certain_row certain p types words f asks row test at (sym same ∙ is_certain)
      | inr (never, how) ↦ absurd (let e : Rejected ≡ Certain = sym never ∙ is_certain in cc)
    ]
