-- What a row is written as, as a function that is total: what a row cannot be written as ends it.
use Rattle.std.specs.Prelude.{ℕ, ◌+◌, ◌-◌, ◌/◌, ◌%◌, ◌^◌, ◌==◌, nat_lt, nat_le, nat_eq, ◌&&◌, Bool, true, false, if◌then◌else◌, Option, Some, None, List, [], ◌∷◌, ◌++◌, take, drop, slice_index_or, slice_range}
use Rattle.std.specs.Int.{cast_signed, w64}
use Rattle.std.specs.Fmt.{signed_decimal}
use Rattle.var_codec.specs.Codes.{text_of}
use Rattle.var_codec.specs.Fields.{padded}
use Rattle.logtype_text.specs.declared.symbols.Kind.{Kind}
use Rattle.logtype_text.specs.declared.symbols.Kind.TheVariants.{Whole, Word, Decimal}
use Rattle.logtype_text.specs.TypeText.{is_escaped}

-- the parts of a decimal by its word
abbrev pub count_in : ℕ → ℕ
count_in word = word / 2 ^ 4 % 2 ^ 4 + 1

abbrev pub places_in : ℕ → ℕ
places_in word = word % 2 ^ 4 + 1

abbrev pub digits_in : ℕ → List ℕ
digits_in word = drop (16 - count_in word) (padded (word / 2 ^ 8 % 2 ^ 54))

unfoldable pub decimal_in : ℕ → List ℕ
decimal_in word = text_of (record {
  negative = nat_eq (word / 2 ^ 63) 1;
  before = take (count_in word - places_in word) (digits_in word);
  after = drop (count_in word - places_in word) (digits_in word);
})

-- the word is that of a decimal
unfoldable pub is_decimal : ℕ → Bool
is_decimal word =
    nat_eq (word / 2 ^ 62 % 2) 0 &&
    (nat_lt (word / 2 ^ 8 % 2 ^ 54) (10 ^ count_in word) && nat_le (places_in word) (count_in word))

-- the text at a number, none where there is none
abbrev pub text_at : List (List ℕ) → ℕ → List ℕ
text_at texts n = slice_index_or texts n []

-- what a variable of this kind with this word is written as
abbrev pub shown : List (List ℕ) → Kind → ℕ → List ℕ
shown words Whole word = signed_decimal (cast_signed w64 word)
shown words Word word = text_at words word
shown words Decimal word = if is_decimal word then decimal_in word else []

-- the kind of a placeholder
abbrev pub kind_at : ℕ → Option Kind
kind_at b =
    if b == 0x11 then Some Whole else (if b == 0x12 then Some Word else (if b == 0x13 then Some Decimal else None))

-- what comes behind: a variable takes the next of the row's words
abbrev pub slot_text : List (List ℕ) → (List ℕ → List ℕ) → Kind → List ℕ → List ℕ
slot_text words behind kind [] = []
slot_text words behind kind (word ∷ row) = shown words kind word ++ behind row

abbrev pub byte_text : List (List ℕ) → (List ℕ → List ℕ) → Option Kind → ℕ → List ℕ → List ℕ
byte_text words behind None b row = b ∷ behind row
byte_text words behind (Some kind) b row = slot_text words behind kind row

-- what the text of a log type is written as with a row's words in its slots; `escaped` tells that a `\`
-- stands before it
abbrev pub body_from : Bool → List (List ℕ) → List ℕ → List ℕ → List ℕ
body_from escaped words [] row = []
body_from true words (b ∷ text) row = if is_escaped b then b ∷ body_from false words text row else []
body_from false words (b ∷ text) row =
    if b == 0x5C then body_from true words text row
    else byte_text words (body_from false words text) (kind_at b) b row

-- what is left: bytes that were printed, those of a word, and what the text behind is written as
abbrev pub left_of : List ℕ → ℕ → ℕ → List ℕ → List (List ℕ) → List ℕ → List ℕ → List ℕ
left_of printed at end word words text row = slice_range printed at end ++ (word ++ body_from false words text row)

-- the constant bytes of a log type's text, with these bytes for each variable; `escaped` tells that a `\`
-- stands before it
abbrev pub mark_text : List ℕ → List ℕ → Option Kind → ℕ → List ℕ
mark_text mark behind None b = b ∷ behind
mark_text mark behind (Some kind) b = mark ++ behind

abbrev pub marked_from : Bool → List ℕ → List ℕ → List ℕ
marked_from escaped mark [] = []
marked_from true mark (b ∷ text) = if is_escaped b then b ∷ marked_from false mark text else []
marked_from false mark (b ∷ text) =
    if b == 0x5C then marked_from true mark text else mark_text mark (marked_from false mark text) (kind_at b) b

-- the kinds of the slots of a log type's text; `escaped` tells that a `\` stands before it
abbrev pub kind_before : Option Kind → List Kind → List Kind
kind_before None kinds = kinds
kind_before (Some kind) kinds = kind ∷ kinds

abbrev pub kinds_in : Bool → List ℕ → List Kind
kinds_in escaped [] = []
kinds_in true (b ∷ text) = if is_escaped b then kinds_in false text else []
kinds_in false (b ∷ text) = if b == 0x5C then kinds_in true text else kind_before (kind_at b) (kinds_in false text)

-- none, or one byte
abbrev pub mark_of : Option ℕ → List ℕ
mark_of None = []
mark_of (Some m) = m ∷ []
