-- What a filter knows of the words and the log types of an archive.
use Rattle.std.specs.Prelude.{◌≡◌, ◌≢◌, ◌⊎◌, ◌<◌, ◌≤◌, ℕ, ℤ, ◌≤ℤ◌, List, All, None, Some, bit_and, bit_or, false, true, length, map, slice_get, slice_index_or}
use Rattle.std.specs.List.{Contains}
use Rattle.std.specs.Fmt.{signed_decimal}
use Rattle.std.specs.Int.{cast_signed, w64}
use Rattle.var_codec.specs.Codes.{Codes}
use Rattle.var_codec.specs.declared.Coded.{Coded}
use Rattle.var_codec.specs.declared.Coded.TheVariants.{Decimal as DecimalWord, Whole as WholeWord}
use Rattle.column_store.specs.declared.row.Row.{Row}
use Rattle.logtype_text.specs.declared.symbols.Kind.{Kind}
use Rattle.logtype_text.specs.declared.symbols.Kind.TheVariants.{Whole, Word, Decimal}
use Rattle.logtype_text.specs.Parts.{Part, symbol_of}
use Rattle.logtype_text.specs.TypeText.{IsTypeText, type_text}
use Rattle.wild_match.specs.Matches.{Match}
use Rattle.wild_match.specs.declared.pattern.Item.{Item}
use Rattle.row_codec.specs.Means.{HasStampText, HasWord, IsCanonical, IsSpelling}
use Rattle.row_codec.specs.Numbers.{numbers_of_row}
use Rattle.segment_format.specs.declared.head.Head.{Head}
use Rattle.query_plan.specs.declared.pieces.Piece.{Piece}
use Rattle.query_plan.specs.Needs.{around}
use Rattle.query_plan.specs.Laws.{IsSearched}
use Rattle.query_plan.specs.Pieces.{IsCut, flat, wide_pieces}
use Rattle.subquery_filter.specs.declared.run.Run.{Run}
use Rattle.subquery_filter.specs.declared.filter.Filter.{Filter}
use Rattle.subquery_filter.specs.declared.needing.Need.{Need}
use Rattle.subquery_filter.specs.declared.needing.Need.TheVariants.{Never, Hit, Open}
use Rattle.subquery_filter.specs.declared.marks.WordMarks.{WordMarks}
use Rattle.subquery_filter.specs.declared.slots.Slot.{Slot}
use Rattle.subquery_filter.specs.declared.slots.Sums.{Sums}
use Rattle.subquery_filter.specs.declared.slots.KindBits.{KindBits}
use Rattle.subquery_filter.specs.declared.slots.TypeTest.{TypeTest}
use Rattle.subquery_filter.specs.declared.small.SmallNumbers.{SmallNumbers}
use Rattle.subquery_filter.specs.declared.token.Token.{Token}
use Rattle.subquery_filter.specs.declared.verdicts.Verdict.{Verdict}
use Rattle.subquery_filter.specs.declared.verdicts.Verdict.TheVariants.{Rejected, Certain, Tried}
use Rattle.subquery_filter.specs.NumberText.{is_number_part}
use Rattle.subquery_filter.specs.StepsLetters.{kinds_in}
use Rattle.subquery_filter.specs.Tokens.{IsClosedIn, IsInRun, IsRunOf, IsTokenOf, LiesInStamp, MayGoOn, MayStandIn, StandsInType}
use Rattle.subquery_filter.specs.Verdicts.{IsCertain, IsRejected}

-- all of some bits are among these
abbrev pub Has : ℕ → ℕ → Type 0
Has bits some = bit_or bits some ≡ bits

-- ---- what brings which tokens

-- the bit of each token that stands in the text is among these
abbrev pub Marks : List Token → List ℕ → ℕ → Type 0
Marks tokens text bits = All (λ k. Match k.matcher.items text → Has bits k.bit) tokens

-- the bit of each token that lies in the stamp, with what stands around it in the pattern, is among these
abbrev pub StampMarks : List Token → List ℕ → ℕ → Type 0
StampMarks tokens s bits = All (λ k. LiesInStamp k.chunk k.text s → Has bits k.bit) tokens

-- the token may be in a variable with this text: it stands in it, and is all of it where it is a closed variable
abbrev pub Finds : Token → List ℕ → Type 0
Finds k text = Match k.matcher.items text × ((code : Coded) → k.closed ≡ Some code → text ≡ k.text)

-- the bit of each token that may be in a variable with this text is among these
abbrev pub MarksVariable : List Token → List ℕ → ℕ → Type 0
MarksVariable tokens text bits = All (λ k. Finds k text → Has bits k.bit) tokens

-- the same of the tokens that are no closed variables
abbrev pub MarksOpen : List Token → List ℕ → ℕ → Type 0
MarksOpen tokens text bits = All (λ k. k.closed ≡ None → Match k.matcher.items text → Has bits k.bit) tokens

-- a closed variable is kept with what it is stored as
abbrev pub AreCoded : List Token → Type 0
AreCoded tokens = All (λ k. (code : Coded) → k.closed ≡ Some code → Codes k.text code) tokens

-- the bit of each token that stands among the constant bytes of the log type is among these
abbrev pub Gives : List Token → List ℕ → ℕ → Type 0
Gives tokens text bits = IsTypeText text → All (λ k. StandsInType k.matcher.items text → Has bits k.bit) tokens

-- the bit of each token that stands in the text of some variable of this kind is among these
abbrev pub Covers : List Token → Kind → ℕ → Type 0
Covers tokens kind bits =
    (words : List (List ℕ)) (variable : List ℕ) (word : ℕ) → HasWord words kind variable word → MarksVariable tokens variable bits

-- these bits are among any that have the bit of each token
abbrev pub IsWanted : List Token → ℕ → Type 0
IsWanted tokens bits = (all : ℕ) → All (λ k. Has all k.bit) tokens → Has all bits

-- the bits that each kind of variable may bring
pub record AreKindBits (tokens : List Token) (bits : KindBits) : Type 0 where
  pub whole : Covers tokens Whole bits.whole
  pub decimal : Covers tokens Decimal bits.decimal
  pub word : Covers tokens Word bits.word

-- the bit of each token that may be in a number is among these
abbrev pub AreNumberBits : List Token → ℕ → Type 0
AreNumberBits tokens bits = (kind : Kind) → kind ≢ Word → Covers tokens kind bits

-- the marks that stand behind the low bits of a number
abbrev pub marks_at : WordMarks → ℕ → ℕ
marks_at marks n = slice_index_or marks.table.items (bit_and n marks.mask) 0

-- each word's marks stand behind its number, and maybe more
abbrev pub AreMarks : List Token → List (List ℕ) → WordMarks → Type 0
AreMarks tokens words marks = (n : ℕ) (text : List ℕ) → slice_get words n ≡ Some text → Marks tokens text (marks_at marks n)

-- the marks of the whole numbers whose words are small stand at their words, without those of closed variables
abbrev pub AreSmall : List Token → List ℕ → Type 0
AreSmall tokens small = (n bits : ℕ) → slice_get small n ≡ Some bits → MarksOpen tokens (signed_decimal (cast_signed w64 n)) bits

-- no token stands in a whole number whose word is below this, but for closed variables
abbrev pub IsLeast : List Token → ℕ → Type 0
IsLeast tokens least = (n : ℕ) → n < least → MarksOpen tokens (signed_decimal (cast_signed w64 n)) 0

-- no token stands in a number whose word is below this, a whole one or a decimal, but for closed variables
pub record IsBound (tokens : List Token) (bound : ℕ) : Type 0 where
  pub whole : IsLeast tokens bound
  pub decimal : (word : ℕ) → word < bound → (text : List ℕ) → Codes text (DecimalWord word) → MarksOpen tokens text 0

-- what is told of numbers by their words is right
pub record TellsSmall (tokens : List Token) (small : SmallNumbers) : Type 0 where
  pub least : IsLeast tokens small.least
  pub bound : IsBound tokens small.bound
  pub marks : AreSmall tokens small.marks.items

-- what each pattern's stamps may bring stands at its number
abbrev pub AreStamps : List Token → List ℕ → Type 0
AreStamps tokens stamps =
    (pattern : ℕ) (moment : ℤ) (s : List ℕ) → HasStampText pattern moment s → StampMarks tokens s (slice_index_or stamps pattern 0)

-- ---- runs of the pattern, as a whole

-- runs of these pieces
abbrev pub AreRuns : List Piece → List Run → Type 0
AreRuns ps runs = All (λ r. IsRunOf ps r.text) runs

-- these bits are among any that have the bit of each run that may neither stand in a body of the log type with this
-- text nor go on there
abbrev pub IsAlone : List Run → List ℕ → ℕ → Type 0
IsAlone runs text bits =
    (may : ℕ) → All (λ r. ¬ MayStandIn r.text text → ¬ MayGoOn r.text text → Has may r.bit) runs → Has may bits

-- so it is of the bits at the number of each log type
abbrev pub AreAlone : List Run → List (List ℕ) → List ℕ → Type 0
AreAlone runs types alone =
    (t : ℕ) (text : List ℕ) → slice_get types t ≡ Some text → IsAlone runs text (slice_index_or alone t 0)

-- the bit of each run that stands in the stamp is among these
abbrev pub RunMarks : List Run → List ℕ → ℕ → Type 0
RunMarks runs s bits = All (λ r. Match (around r.text) s → Has bits r.bit) runs

-- the bits of the runs that each pattern's stamps may have stand at its number
abbrev pub AreRunStamps : List Run → List ℕ → Type 0
AreRunStamps runs stamps =
    (pattern : ℕ) (moment : ℤ) (s : List ℕ) → HasStampText pattern moment s → RunMarks runs s (slice_index_or stamps pattern 0)

-- ---- what is known of a log type

-- the token at a place does not stand among the constant bytes of a log type with this text, and its bit is not among
-- those that rows may bring in other ways
pub record LacksText (tokens : List Token) (others : ℕ) (text : List ℕ) : Type 0 where
  pub place : ℕ
  pub token : Token
  pub is : slice_get tokens place ≡ Some token
  pub lacks : IsTypeText text → ¬ StandsInType token.matcher.items text
  pub left : ¬ Has others token.bit

-- the verdict is right of the log types with this text
abbrev pub IsRight : List Piece → List Token → ℕ → List ℕ → Verdict → Type 0
IsRight ps tokens others text Rejected =
    ((parts : List Part) → text ≡ type_text (map symbol_of parts) → IsRejected ps parts) ⊎ LacksText tokens others text
IsRight ps tokens others text Certain = (parts : List Part) → text ≡ type_text (map symbol_of parts) → IsCertain ps parts
IsRight ps tokens others text Tried = Unit {0}

-- a slot of this place and kind is listed between the two, with all bits that it may bring
pub record IsListed (tokens : List Token) (slots : List Slot) (first end place : ℕ) (kind : Kind) : Type 0 where
  pub at : ℕ
  pub from : first ≤ at
  pub to : at < end
  pub slot : Slot
  pub is : slice_get slots at ≡ Some slot
  pub same_place : slot.place ≡ place
  pub same_kind : slot.kind ≡ kind
  pub covers : Covers tokens kind slot.bits

-- a slot of this place and kind is listed, or brings no bit beyond those that are known
abbrev pub IsSlot : List Token → List Slot → ℕ → ℕ → ℕ → ℕ → Kind → Type 0
IsSlot tokens slots first end known place kind = IsListed tokens slots first end place kind ⊎ Covers tokens kind known

-- so it is of each slot of the log type
abbrev pub AreSlots : List Token → List ℕ → List Slot → ℕ → ℕ → ℕ → Type 0
AreSlots tokens text slots first end known =
    (place : ℕ) (kind : Kind) → slice_get (kinds_in false text) place ≡ Some kind → IsSlot tokens slots first end known place kind

-- the bits that slots of a kind may bring in sum
abbrev pub sum_at : Kind → Sums → ℕ
sum_at Whole sums = sums.numbers
sum_at Decimal sums = sums.numbers
sum_at Word sums = sums.words

-- no slot of the log type brings a bit beyond those that are known and those in sum
abbrev pub AreSums : List Token → List ℕ → ℕ → Sums → Type 0
AreSums tokens text known sums =
    (place : ℕ) (kind : Kind) → slice_get (kinds_in false text) place ≡ Some kind → Covers tokens kind (bit_or known (sum_at kind sums))

-- what is known of the log types with this text: the rest matters where the verdict leaves it open
pub record IsTest (ps : List Piece) (tokens : List Token) (others : ℕ) (slots : List Slot) (text : List ℕ) (test : TypeTest) : Type 0 where
  pub right : IsRight ps tokens others text test.verdict
  pub gives : test.verdict ≡ Tried → Gives tokens text test.has
  pub slots_are : test.verdict ≡ Tried → test.listed ≡ true → AreSlots tokens text slots test.first test.end test.has
  pub sums_are : test.verdict ≡ Tried → AreSums tokens text test.has test.sums

-- what is known of each log type is right
abbrev pub AreTests : List Piece → List Token → ℕ → List (List ℕ) → List Slot → List TypeTest → Type 0
AreTests ps tokens others types slots tests =
    (t : ℕ) (text : List ℕ) (test : TypeTest) → slice_get types t ≡ Some text → slice_get tests t ≡ Some test
    → IsTest ps tokens others slots text test

-- ---- what rows of a log type may bring

-- no row of a log type of which this is known brings all that is wanted, where the stamps and the words bring
-- these bits
pub record LacksAll (f : Filter) (test : TypeTest) (stamped brought : ℕ) : Type 0 where
  pub bits : ℕ
  pub has : Has bits test.has
  pub numbers : Has bits test.sums.numbers
  pub words : Has bits (bit_and test.sums.words brought)
  pub stamps : Has bits stamped
  pub lacks : ¬ Has bits f.wanted

-- the log type with this number leaves a run to stamps alone, and stamps bring no more runs than these
abbrev pub LacksRuns : Filter → ℕ → ℕ → Type 0
LacksRuns f bits t = ¬ Has bits (slice_index_or f.alone.items t 0)

-- the verdict is that of the log type's text, or no row of a log type that leaves these runs to stamps alone brings all
-- that is wanted, or all runs
abbrev pub IsToldBy : Filter → TypeTest → ℕ → Verdict → Type 0
IsToldBy f test alone verdict =
    (verdict ≡ test.verdict)
    ⊎ ((verdict ≡ Rejected) × (((test.verdict ≡ Tried) × LacksAll f test f.stamped f.brought) ⊎ ¬ Has f.run_stamped alone))

-- so it is of each log type, by their numbers
abbrev pub AreToldBy : Filter → List TypeTest → List ℕ → List Verdict → Type 0
AreToldBy f tests alone verdicts =
    (t : ℕ) (verdict : Verdict) → slice_get verdicts t ≡ Some verdict
    → (test : TypeTest) × (slice_get tests t ≡ Some test) × IsToldBy f test (slice_index_or alone t 0) verdict

-- and by what a filter knows of them
abbrev pub AreTold : Filter → List Verdict → Type 0
AreTold f verdicts = AreToldBy f f.tests.items f.alone.items verdicts

-- ---- what a row needs of its variables

-- the token is no closed variable, and may stand in a number
abbrev pub IsOpenNumber : Token → Type 0
IsOpenNumber k = (k.closed ≡ None) × (is_number_part true k.text ≡ true)

-- the bit of each such token is among these
abbrev pub AreOpenBits : List Token → ℕ → Type 0
AreOpenBits tokens bits = All (λ k. IsOpenNumber k → Has bits k.bit) tokens

-- the constant bytes of a log type of which this is known, all stamps, and all such tokens where no bound tells of
-- them, do not bring all that is wanted
pub record LacksBare (tokens : List Token) (test : TypeTest) (stamped wanted bound : ℕ) : Type 0 where
  pub bits : ℕ
  pub has : Has bits test.has
  pub stamps : Has bits stamped
  pub numbers : bound ≡ 0 → AreOpenBits tokens bits
  pub lacks : ¬ Has bits wanted

-- what rows of the log type with this number need is right, by the tokens, what is known of the log types, the bound of the
-- words of numbers, and the verdicts on the log types
abbrev pub IsNeed : List Token → List TypeTest → ℕ → ℕ → ℕ → List Verdict → ℕ → Need → Type 0
IsNeed tokens tests stamped wanted bound verdicts t Never = slice_get verdicts t ≡ Some Rejected
IsNeed tokens tests stamped wanted bound verdicts t Hit =
    (test : TypeTest) × (slice_get tests t ≡ Some test) × (test.verdict ≡ Tried) × LacksBare tokens test stamped wanted bound
IsNeed tokens tests stamped wanted bound verdicts t Open = Unit {0}

-- so it is of each log type of a filter, by their numbers
abbrev pub AreNeeds : Filter → List Verdict → List Need → Type 0
AreNeeds f verdicts needs =
    (t : ℕ) (need : Need) → slice_get needs t ≡ Some need
    → IsNeed f.tokens.items f.tests.items f.stamped f.wanted f.small.bound verdicts t need

-- the token is no closed variable that is stored as this word
abbrev pub IsNoCode : Token → ℕ → Type 0
IsNoCode k word = (k.closed ≢ Some (WholeWord (cast_signed w64 word))) × (k.closed ≢ Some (DecimalWord word))

-- the word is not marked, no closed variable is stored as it is, and it is below the bound of numbers where there is one
pub record CountsNot (f : Filter) (word : ℕ) : Type 0 where
  pub marks : marks_at f.marks word ≡ 0
  pub code : All (λ k. IsNoCode k word) f.tokens.items
  pub below : 0 < f.small.bound → word < f.small.bound

-- so it is of all words from one place up to another
abbrev pub NoneCounts : Filter → List ℕ → ℕ → ℕ → Type 0
NoneCounts f words from to =
    (k : ℕ) → from ≤ k → k < to → k < length words → CountsNot f (slice_index_or words k 0)

-- the word has no mark beyond those of tokens that numbers may bring, and no closed variable is stored as it is
pub record IsOpenWord (f : Filter) (word : ℕ) : Type 0 where
  pub marks : Has f.numeric (marks_at f.marks word)
  pub code : All (λ k. IsNoCode k word) f.tokens.items

-- ---- the filter

-- a token of the pieces, with the text that stands around it there, and closed where it is kept as a closed variable
pub record IsAsked (ps : List Piece) (k : Token) : Type 0 where
  pub token : IsTokenOf ps k.matcher.items
  pub runs : k.closed ≡ None → IsInRun ps k.text k.chunk
  pub closed : (code : Coded) → k.closed ≡ Some code → IsClosedIn ps k.text k.chunk code

-- the texts of the tokens, in their order
abbrev pub AreTexts : List Token → List (List ℕ) → Type 0
AreTexts tokens texts = (j : ℕ) (k : Token) → slice_get tokens j ≡ Some k → slice_get texts j ≡ Some k.text

-- the bits that rows may bring beside the constant bytes of their log types
abbrev pub others_of : Filter → ℕ
others_of f = bit_or (bit_or f.stamped f.numbers) f.brought

-- The filter is one of the pattern with these pieces, over an archive with these log types. Its needles are the texts
-- of all tokens.
pub record AsksTypes (ps : List Piece) (types : List (List ℕ)) (f : Filter) : Type 0 where
  pub cut : IsCut ps
  pub are : All (IsAsked ps) f.tokens.items
  pub wanted : IsWanted f.tokens.items f.wanted
  pub numeric : AreOpenBits f.tokens.items f.numeric
  pub tests : AreTests ps f.tokens.items (others_of f) types f.slots.items f.tests.items
  pub needles : AreTexts f.tokens.items f.needles.items
  pub told : AreTold f f.verdicts.items
  pub needs : AreNeeds f f.verdicts.items f.needs.items
  pub brought : (n : ℕ) → Has f.brought (marks_at f.marks n)
  pub numbers : AreNumberBits f.tokens.items f.numbers
  pub small : TellsSmall f.tokens.items f.small
  pub stamps : AreStamps f.tokens.items f.stamps.items
  pub stamped : (pattern : ℕ) → Has f.stamped (slice_index_or f.stamps.items pattern 0)
  pub runs : AreRuns ps f.runs.items
  pub alone : AreAlone f.runs.items types f.alone.items
  pub run_stamps : AreRunStamps f.runs.items f.run_stamps.items
  pub run_stamped : (pattern : ℕ) → Has f.run_stamped (slice_index_or f.run_stamps.items pattern 0)

-- The same over an archive with these words too, which are marked.
pub record IsFilter (ps : List Piece) (types words : List (List ℕ)) (f : Filter) : Type 0 where
  pub asks : AsksTypes ps types f
  pub marks : AreMarks f.tokens.items words f.marks

-- the pattern matches no message of a row that is rejected, and each one of a row that is certain
abbrev pub IsRowVerdict : List Piece → List (List ℕ) → List (List ℕ) → Row → Verdict → Type 0
IsRowVerdict ps types words row Rejected = (version : ℕ) (message : List ℕ) → IsCanonical version row types words message
    → ¬ Match (flat ps) message
IsRowVerdict ps types words row Certain = (message : List ℕ) → IsSpelling row types words message → Match (flat ps) message
IsRowVerdict ps types words row Tried = Unit {0}

-- the pattern matches no message of a row of this log type, whatever else the row has
abbrev pub RejectsType : List Piece → List (List ℕ) → List (List ℕ) → ℕ → Type 0
RejectsType ps types words t = (row : Row) → row.log_type ≡ t → IsRowVerdict ps types words row Rejected

-- the filter rejects the row, whatever it is a filter of
abbrev pub Rejects : Filter → Row → Type 0
Rejects f row =
    (p : List Item) (types words : List (List ℕ)) → IsSearched p → IsFilter (wide_pieces p) types words f
    → IsRowVerdict (wide_pieces p) types words row Rejected

-- a stamp has one of the moments of a segment with this head
abbrev pub IsWithin : Head → ℤ → Type 0
IsWithin head moment = (head.stamped ≡ true) × (head.least ≤ℤ moment) × (moment ≤ℤ head.greatest)

-- a segment with this head may have the row
pub record MayHave (types : List (List ℕ)) (head : Head) (row : Row) : Type 0 where
  pub listed : Contains head.types row.log_type
  pub words : (n : ℕ) → Contains (numbers_of_row types row) n → Contains head.words n
  pub within : row.pattern ≢ 0 → IsWithin head row.moment

-- the pattern matches no message of a row that such a segment may have
abbrev pub HasNoMatch : List Piece → List (List ℕ) → List (List ℕ) → Head → Type 0
HasNoMatch ps types words head =
    (version : ℕ) (row : Row) (message : List ℕ) → MayHave types head row → IsCanonical version row types words message
    → ¬ Match (flat ps) message
