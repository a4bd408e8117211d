-- What the parts of a filter tell each other.
use Rattle.std.specs.Prelude.{◌≡◌, ◌≢◌, ◌⊎◌, ◌+◌, ◌++◌, ◌<◌, ◌≤◌, ℕ, ℤ, false, true, List, [], All, None, Some, bit_and, drop, length, slice_get, slice_index_or}
use Rattle.std.specs.List.{Contains}
use Rattle.std.specs.Fmt.{signed_decimal}
use Rattle.std.specs.Int.{cast_signed, w64}
use Rattle.column_store.specs.declared.row.Row.{Row}
use Rattle.var_codec.specs.declared.Coded.{Coded}
use Rattle.logtype_text.specs.declared.symbols.Kind.{Kind}
use Rattle.logtype_text.specs.declared.symbols.Kind.TheVariants.{Word}
use Rattle.wild_match.specs.Matches.{Match}
use Rattle.row_codec.specs.Means.{HasStampText, HasWord}
use Rattle.segment_format.specs.declared.head.Head.{Head}
use Rattle.query_plan.specs.declared.pieces.Piece.{Piece}
use Rattle.query_plan.specs.Laws.{NoGap, chunk_text}
use Rattle.subquery_filter.specs.declared.filter.Filter.{Filter}
use Rattle.subquery_filter.specs.declared.marks.WordMarks.{WordMarks}
use Rattle.subquery_filter.specs.declared.slots.KindBits.{KindBits}
use Rattle.subquery_filter.specs.declared.slots.Slot.{Slot}
use Rattle.subquery_filter.specs.declared.slots.Sums.{Sums}
use Rattle.subquery_filter.specs.declared.slots.TypeTest.{TypeTest}
use Rattle.subquery_filter.specs.declared.token.Token.{Token}
use Rattle.subquery_filter.specs.declared.verdicts.Verdict.TheVariants.{Rejected, Tried}
use Rattle.subquery_filter.specs.Filter.{AreCoded, AreKindBits, AreMarks, AreNumberBits, AreRunStamps, AreStamps, Finds, Has, IsAsked, IsOpenWord, IsSlot, IsWithin, LacksAll, LacksRuns, RunMarks, StampMarks, TellsSmall, marks_at, sum_at}
use Rattle.subquery_filter.specs.StepsLetters.{kinds_in}
use Rattle.subquery_filter.specs.Tokens.{IsClosed}

-- tokens of these pieces
abbrev pub AreTokens : List Piece → List Token → Type 0
AreTokens ps tokens = All (IsAsked ps) tokens

-- the bit of each token is among these
abbrev pub HasAll : List Token → ℕ → Type 0
HasAll tokens bits = All (λ k. Has bits k.bit) tokens

-- the marks of each of these words are among the bits
abbrev pub HasEach : WordMarks → List ℕ → ℕ → Type 0
HasEach marks numbers bits = (n : ℕ) → Contains numbers n → Has bits (marks_at marks n)

-- the bit stands behind the low bits of each of these numbers
abbrev pub HasAt : List ℕ → ℕ → ℕ → List ℕ → Type 0
HasAt table mask bit numbers = (n : ℕ) → Contains numbers n → Has (slice_index_or table (bit_and n mask) 0) bit

-- what stood in the table still does
abbrev pub KeepsBits : List ℕ → List ℕ → Type 0
KeepsBits old new = (at : ℕ) → Has (slice_index_or new at 0) (slice_index_or old at 0)

-- the bit of each token stands behind the numbers of the list at its place
abbrev pub HasLists : List ℕ → ℕ → List Token → List (List ℕ) → Type 0
HasLists table mask tokens lists =
    (j : ℕ) (k : Token) → slice_get tokens j ≡ Some k → HasAt table mask k.bit (slice_index_or lists j [])

-- the slots so far stay where they are
abbrev pub Stays : List Slot → List Slot → Type 0
Stays old new = (at : ℕ) (slot : Slot) → slice_get old at ≡ Some slot → slice_get new at ≡ Some slot

-- the slots that are listed between the two bring no more than this in sum
abbrev pub AreSummed : List Slot → ℕ → ℕ → Sums → Type 0
AreSummed slots first end sums =
    (at : ℕ) (slot : Slot) → first ≤ at → at < end → slice_get slots at ≡ Some slot → Has (sum_at slot.kind sums) slot.bits

-- The slots are listed up to a place of the log type's text, of which this is left.
pub record ListedUpTo (bits : KindBits) (text rest : List ℕ) (place first known : ℕ) (slots : List Slot) : Type 0 where
  pub left : kinds_in false rest ≡ drop place (kinds_in false text)
  pub room : place + length rest ≤ length text
  pub listed :
      (tokens : List Token) → AreKindBits tokens bits → (k : ℕ) (kind : Kind) → k < place
      → slice_get (kinds_in false text) k ≡ Some kind → IsSlot tokens slots first (length slots) known k kind

-- ---- digits

-- the token is a closed variable, or stands in no whole number whose word is below this
abbrev pub NoneBelow : Token → ℕ → Type 0
NoneBelow k least = (n : ℕ) → n < least → k.closed ≡ None → ¬ Match k.matcher.items (signed_decimal (cast_signed w64 n))

-- ---- what is tested of a row

-- the bit of each token that may stand in the slot, and stands in the text of this word there, is among
-- these
abbrev pub SlotGives : Filter → Slot → ℕ → ℕ → Type 0
SlotGives f slot word bits =
    (words : List (List ℕ)) (variable : List ℕ) → (slot.kind ≡ Word → AreMarks f.tokens.items words f.marks)
    → ((n : ℕ) → Has f.brought (marks_at f.marks n)) → TellsSmall f.tokens.items f.small
    → AreNumberBits f.tokens.items f.numbers → AreCoded f.tokens.items
    → HasWord words slot.kind variable word
    → All (λ k. Finds k variable → Has slot.bits k.bit → Has bits k.bit) f.tokens.items

-- so it is of the slot that is listed at this place
abbrev pub SlotIs : Filter → ℕ → List ℕ → ℕ → Type 0
SlotIs f at row bits =
    (slot : Slot) (word : ℕ) → slice_get f.slots.items at ≡ Some slot → slice_get row slot.place ≡ Some word
    → SlotGives f slot word bits

-- so it is of the word at this place of a row, whatever slot it is in
abbrev pub GivesAny : Filter → List ℕ → ℕ → ℕ → Type 0
GivesAny f row place bits = (word : ℕ) → slice_get row place ≡ Some word → (slot : Slot) → SlotGives f slot word bits

-- the row brings no more by its variables: by its slots that are listed, and by all of its words where none is
pub record Brings (f : Filter) (test : TypeTest) (row : List ℕ) (bits : ℕ) : Type 0 where
  pub slots : test.listed ≡ true → (at : ℕ) → test.first ≤ at → at < test.end → SlotIs f at row bits
  pub unlisted : test.listed ≡ false → (place : ℕ) → GivesAny f row place bits

-- and by its words, where it brings what numbers may bring
pub record BringsWords (f : Filter) (test : TypeTest) (row : List ℕ) (bits : ℕ) : Type 0 where
  pub slots :
      test.listed ≡ true → (at : ℕ) → test.first ≤ at → at < test.end → (slot : Slot)
      → slice_get f.slots.items at ≡ Some slot → slot.kind ≡ Word → SlotIs f at row bits
  pub unlisted : test.listed ≡ false → (place : ℕ) → GivesAny f row place bits

-- the row brings no more than these bits, which are not all that are wanted
pub record Lacks (f : Filter) (test : TypeTest) (row : Row) : Type 0 where
  pub bits : ℕ
  pub has : Has bits test.has
  pub brings : Brings f test row.words bits
  pub stamp :
      AreStamps f.tokens.items f.stamps.items → (s : List ℕ) → HasStampText row.pattern row.moment s
      → StampMarks f.tokens.items s bits
  pub lacks : ¬ Has bits f.wanted

-- the constant bytes of its log type, numbers and its stamp bring no more than these bits, which are not all that are
-- wanted, and no word of it brings another
pub record LacksHits (f : Filter) (test : TypeTest) (row : Row) : Type 0 where
  pub bits : ℕ
  pub has : Has bits test.has
  pub numeric : Has bits f.numeric
  pub words : All (IsOpenWord f) row.words
  pub stamp :
      AreStamps f.tokens.items f.stamps.items → (s : List ℕ) → HasStampText row.pattern row.moment s
      → StampMarks f.tokens.items s bits
  pub lacks : ¬ Has bits f.wanted

-- so it is by what is known of its log type
abbrev pub LacksTokens : Filter → Row → Type 0
LacksTokens f row =
    (test : TypeTest) × (slice_get f.tests.items row.log_type ≡ Some test) × (LacksHits f test row ⊎ Lacks f test row)

-- a run that its log type leaves to stamps stands in no stamp of the row
abbrev pub LacksStamp : Filter → Row → Type 0
LacksStamp f row =
    (bits : ℕ) × (AreRunStamps f.runs.items f.run_stamps.items → (s : List ℕ) → HasStampText row.pattern row.moment s
    → RunMarks f.runs.items s bits) × LacksRuns f bits row.log_type

-- ---- what is tested of a segment

-- no row of the log type with this number is matched, where the stamps bring these runs, and the stamps and the words
-- these bits
abbrev pub IsShut : Filter → ℕ → ℕ → ℕ → ℕ → Type 0
IsShut f runs stamped brought t =
    LacksRuns f runs t
    ⊎ ((test : TypeTest) × (slice_get f.tests.items t ≡ Some test)
    × ((test.verdict ≡ Rejected) ⊎ ((test.verdict ≡ Tried) × LacksAll f test stamped brought)))

-- the bits of the tokens that stand in a stamp of a segment with this head are among these
abbrev pub StampsBring : Filter → Head → ℕ → Type 0
StampsBring f head bits =
    AreStamps f.tokens.items f.stamps.items → (pattern : ℕ) (moment : ℤ) (s : List ℕ) → (pattern ≢ 0 → IsWithin head moment)
    → HasStampText pattern moment s → StampMarks f.tokens.items s bits

-- the bits of the runs that stand in a stamp of a segment with this head are among these
abbrev pub RunsBring : Filter → Head → ℕ → Type 0
RunsBring f head bits =
    (pattern : ℕ) (moment : ℤ) (s : List ℕ) → (pattern ≢ 0 → IsWithin head moment) → HasStampText pattern moment s
    → RunMarks f.runs.items s bits

-- ---- the text around a token

-- the text is added of some of the pieces at the front, none of them a gap
abbrev pub AddsRun : List Piece → List ℕ → List ℕ → Type 0
AddsRun ps old new = (run rest : List Piece) × (ps ≡ run ++ rest) × NoGap run × (new ≡ old ++ chunk_text run)

-- the text is that of some of the pieces at the end, none of them a gap
abbrev pub EndsRun : List Piece → List ℕ → Type 0
EndsRun ps text = (before run : List Piece) × (ps ≡ before ++ run) × NoGap run × (text ≡ chunk_text run)

-- the token is closed between these delimiters
abbrev pub IsClosedBy : List Piece → List ℕ → Coded → ℕ → ℕ → Type 0
IsClosedBy ps t code a b = (h : IsClosed ps t code) × (h.before ≡ a) × (h.behind ≡ b)
