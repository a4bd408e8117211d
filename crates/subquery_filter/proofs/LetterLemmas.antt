-- What is left of a row's text.
use Rattle.std.proofs.Common.{◌≡◌, ◌≢◌, ℕ, zero, suc, ◌+◌, ◌-◌, ◌*◌, ◌/◌, ◌%◌, ◌^◌, ◌<◌, ◌≤◌, Bool, true, false, cond, List, [], ◌∷◌, ◌++◌, length, get_or, map, take, drop, nat_eq, nat_le, nat_lt, refl, sym, ◌∙◌, ap, ap₂, subst, arith, inl, inr, append_assoc, length-append}
use Rattle.std.specs.Prelude.{◌↔◌, ◌==◌, ◌&&◌, Option, Some, None, IsTrue, slice_get, slice_range, if◌then◌else◌}
use Rattle.std.specs.Int.{cast_signed, w64}
use Rattle.std.specs.Fmt.{signed_decimal}
use Rattle.std.specs.Str.Parse.{digits_value}
use Rattle.std.proofs.lemmas.Bool.{cases_Bool}
use Rattle.std.proofs.lemmas.Bool.Decides.{nat_tests}
use Rattle.std.proofs.lemmas.Int.{to_z-of_z}
use Rattle.std.proofs.lemmas.List.{append-nil, drop_all, drop_more, take-append-le}
use Rattle.std.proofs.lemmas.Option.{get_or_from_slice_get, unwrap_or-slice_get}
use Rattle.std.specs.Option.{unwrap_or}
use Rattle.var_codec.specs.Codes.{IsDecimalText, IsDecimalWord, digits_of}
use Rattle.var_codec.proofs.Printed.{fields_print, word_of_text}
use Rattle.var_codec.proofs.Words.{same_text, value_fits}
use Rattle.logtype_text.specs.declared.symbols.Kind.{Kind}
use Rattle.logtype_text.specs.declared.symbols.Kind.TheVariants.{Whole, Word, Decimal}
use Rattle.logtype_text.specs.declared.symbols.Symbol.{Symbol}
use Rattle.logtype_text.specs.declared.symbols.Symbol.TheVariants.{Byte, Slot}
use Rattle.logtype_text.specs.Parts.{Part, Constant, Variable, joined, symbol_of}
use Rattle.logtype_text.specs.TypeText.{is_escaped, text_of_symbol, type_text}
use Rattle.logtype_text.proofs.TextLemmas.{byte_symbol, plain_symbol}
use Rattle.column_store.specs.declared.row.Row.{Row}
use Rattle.row_codec.specs.Means.{EachWord, HasSpelling, HasStampText, IsSpelling, IsWritten}
use Rattle.row_codec.proofs.MeansLemmas.{one_spelling}
use Rattle.row_codec.specs.StepsBody.{HasNoText}
use Rattle.subquery_filter.specs.StepsLetters.{body_from, byte_text, count_in, decimal_in, is_decimal, kind_at, left_of, places_in, shown, text_at}

-- ---- the text of a variable

all_tests : (a b c p q : ℕ) → a ≡ 0 → b < c → p ≤ q → nat_eq a 0 && (nat_lt b c && nat_le p q) ≡ true
all_tests a b c p q zero_bit small few = grind (arith, nat_tests)

tests_all : (a b c p q : ℕ) → nat_eq a 0 && (nat_lt b c && nat_le p q) ≡ true → (a ≡ 0) × (b < c) × (p ≤ q)
tests_all a b c p q are = (grind (arith, nat_tests), grind (arith, nat_tests), grind (arith, nat_tests))

pub is_decimal_tells : (word : ℕ) → IsTrue (is_decimal word) ↔ IsDecimalWord word
unfolding is_decimal
is_decimal_tells word = (
  λ t. let all = tests_all (word / 2 ^ 62 % 2) (word / 2 ^ 8 % 2 ^ 54) (10 ^ count_in word) (places_in word) (count_in word) t in
      record { zero_bit = all.0; digits = all.1; places = all.2 },
  λ w. all_tests (word / 2 ^ 62 % 2) (word / 2 ^ 8 % 2 ^ 54) (10 ^ count_in word) (places_in word) (count_in word) w.zero_bit w.digits w.places,
)

pub decimal_text : (word : ℕ) → word < 2 ^ 64 → IsDecimalWord word → IsDecimalText (decimal_in word) word
unfolding decimal_in
decimal_text word fits w = fields_print word fits w
    (record { negative = nat_eq (word / 2 ^ 63) 1; number = word / 2 ^ 8 % 2 ^ 54; count = count_in word; places = places_in word })
    (record { negative = refl; number = refl; count = refl; places = refl })

word_below : (m : Bool) (v n a : ℕ) → v < 2 ^ 54 → n ≤ 16 → a ≤ n → (if m then 2 ^ 63 else 0) + 2 ^ 8 * v + 16 * (n - 1) + (a - 1) < 2 ^ 64
word_below true v n a small most few = omega arith
word_below false v n a small most few = omega arith

-- the word of a decimal has 64 bits
word_fits : (text : List ℕ) (word : ℕ) → IsDecimalText text word → word < 2 ^ 64
word_fits text word is =
    let d = is.parts in
    let below = word_below d.negative (digits_value 10 (digits_of d)) (length (digits_of d)) (length d.after) (value_fits d is.decimal) is.decimal.most (omega (arith, length-append d.before d.after)) in
    subst (λ w. w < 2 ^ 64) (sym is.packs) below

pub decimal_shown : (words : List (List ℕ)) (text : List ℕ) (word : ℕ) → IsDecimalText text word → text ≡ shown words Decimal word
decimal_shown words text word is =
    let w = word_of_text word (text, is) in
    let yes_decimal : is_decimal word ≡ true = (is_decimal_tells word).1 w in
    same_text text (decimal_in word) word is (decimal_text word (word_fits text word is) w) ∙ sym (ap (λ t. cond t (decimal_in word) []) yes_decimal)

pub no_decimal : (words : List (List ℕ)) (word : ℕ) (ok : Bool) → (IsTrue ok ↔ IsDecimalWord word) → ok ≡ false → [] ≡ shown words Decimal word
no_decimal words word ok tells not_ok = elim (cases_Bool (is_decimal word)) [
  | inl is ↦ let both : ok ≡ true = tells.1 ((is_decimal_tells word).0 is) in absurd (let t : true ≡ false = sym both ∙ not_ok in cc)
  | inr other ↦ sym (ap (λ t. cond t (decimal_in word) []) other)
]

pub text_found : (texts : List (List ℕ)) (n : ℕ) (text : List ℕ) → slice_get texts n ≡ Some text → text ≡ text_at texts n
text_found texts n text at = sym (get_or_from_slice_get texts n text [] at)

missing_by : (texts : List (List ℕ)) (n : ℕ) (found : Option (List ℕ)) → slice_get texts n ≡ found → HasNoText texts n → [] ≡ unwrap_or found []
missing_by texts n None at none = refl
missing_by texts n (Some text) at none = absurd (none text at)

pub text_missing : (texts : List (List ℕ)) (n : ℕ) → HasNoText texts n → [] ≡ text_at texts n
text_missing texts n none = missing_by texts n (slice_get texts n) refl none ∙ unwrap_or-slice_get texts n []

pub written_shown : (words : List (List ℕ)) (kind : Kind) (text : List ℕ) (word : ℕ) → IsWritten words kind text word → text ≡ shown words kind word
written_shown words Whole text word (n, is, packs) =
    is.prints ∙ ap signed_decimal (sym (to_z-of_z w64 n is.fits)) ∙ ap (λ w. signed_decimal (cast_signed w64 w)) (sym packs)
written_shown words Word text word at = text_found words word text at
written_shown words Decimal text word is = decimal_shown words text word is

-- ---- the text of a log type

pub no_kind : (b : ℕ) → is_escaped b ≡ false → kind_at b ≡ None
no_kind b plain = grind (arith, nat_tests)

pub no_escape : (b : ℕ) → is_escaped b ≡ false → (b == 0x5C) ≡ false
no_escape b plain = grind (arith, nat_tests)

byte_by : (e : Bool) (words : List (List ℕ)) (b : ℕ) (after row : List ℕ) → is_escaped b ≡ e
    → body_from false words (cond e (0x5C ∷ b ∷ []) (b ∷ []) ++ after) row ≡ b ∷ body_from false words after row
byte_by true words b after row is = ap (λ t. cond t (b ∷ body_from false words after row) []) is
byte_by false words b after row is =
    ap (λ t. cond t (body_from true words after row) (byte_text words (body_from false words after) (kind_at b) b row)) (no_escape b is)
    ∙ ap (λ k. byte_text words (body_from false words after) k b row) (no_kind b is)

-- a constant
pub body_byte : (words : List (List ℕ)) (b : ℕ) (after row : List ℕ) → body_from false words (text_of_symbol (Byte b) ++ after) row ≡ b ∷ body_from false words after row
body_byte words b after row = byte_by (is_escaped b) words b after row refl

-- a variable
pub body_slot : (words : List (List ℕ)) (kind : Kind) (after : List ℕ) (word : ℕ) (row : List ℕ) → body_from false words (text_of_symbol (Slot kind) ++ after) (word ∷ row) ≡ shown words kind word ++ body_from false words after row
body_slot words Whole after word row = refl
body_slot words Word after word row = refl
body_slot words Decimal after word row = refl

pub body_no_word : (words : List (List ℕ)) (kind : Kind) (after : List ℕ) → body_from false words (text_of_symbol (Slot kind) ++ after) [] ≡ []
body_no_word words Whole after = refl
body_no_word words Word after = refl
body_no_word words Decimal after = refl

stuck_escape : (words : List (List ℕ)) (text row : List ℕ) → ((symbol : Symbol) (rest : List ℕ) → 0x5C ∷ text ≢ text_of_symbol symbol ++ rest) → body_from true words text row ≡ []
stuck_escape words [] row none = refl
stuck_escape words (b ∷ text) row none = elim (cases_Bool (is_escaped b)) [
  | inl is ↦ absurd (none (Byte b) text (sym (ap (λ t. cond t (0x5C ∷ b ∷ []) (b ∷ []) ++ text) is)))
  | inr other ↦ ap (λ t. cond t (b ∷ body_from false words text row) []) other
]

pub other_byte : (b : ℕ) → (b == 0x5C) ≡ false → b ≢ 0x5C
other_byte b other same = grind (arith, nat_tests)

pub same_byte : (b : ℕ) → (b == 0x5C) ≡ true → b ≡ 0x5C
same_byte b is = grind (arith, nat_tests)

-- where no symbol is at the front, nothing follows
pub body_stuck : (words : List (List ℕ)) (text row : List ℕ) → ((symbol : Symbol) (rest : List ℕ) → text ≢ text_of_symbol symbol ++ rest) → body_from false words text row ≡ []
body_stuck words [] row none = refl
body_stuck words (b ∷ text) row none = elim (cases_Bool (b == 0x5C)) [
  | inl is ↦
      ap (λ t. cond t (body_from true words text row) (byte_text words (body_from false words text) (kind_at b) b row)) is
      ∙ stuck_escape words text row (λ symbol rest same. none symbol rest (ap (λ x. x ∷ text) (same_byte b is) ∙ same))
  | inr other ↦ absurd (none (plain_symbol b) text (sym (ap (λ l. l ++ text) (byte_symbol b (other_byte b other)))))
]

-- what parts are written as
pub body_is : (words : List (List ℕ)) (parts : List Part) (row : List ℕ) → EachWord (IsWritten words) parts row → body_from false words (type_text (map symbol_of parts)) row ≡ joined parts
body_is words [] [] has = refl
body_is words [] (w ∷ row) has = absurd has
body_is words (Constant b ∷ parts) row has =
    body_byte words b (type_text (map symbol_of parts)) row ∙ ap (λ l. b ∷ l) (body_is words parts row has)
body_is words (Variable kind text ∷ parts) [] has = absurd has
body_is words (Variable kind text ∷ parts) (w ∷ row) has =
    body_slot words kind (type_text (map symbol_of parts)) w row
    ∙ ap₂ (λ (t l : List ℕ). t ++ l) (sym (written_shown words kind text w has.0)) (body_is words parts row has.1)

-- ---- bytes that were printed

pub printed_first : (printed : List ℕ) (at end : ℕ) → at < end → at < length printed → slice_range printed at end ≡ get_or printed at 0 ∷ slice_range printed (at + 1) end
printed_first printed at end less within =
    let gap : end - at ≡ suc (end - (at + 1)) = omega arith in
    ap₂ (λ (n : ℕ) (xs : List ℕ). take n xs) gap (drop_more printed at 0 within)

pub printed_none : (printed : List ℕ) (at end : ℕ) → end ≤ at → slice_range printed at end ≡ []
printed_none printed at end less = let gap : end - at ≡ 0 = omega arith in ap (λ n. take n (drop at printed)) gap

take_nil : (n : ℕ) → take {A = ℕ} n [] ≡ []
take_nil zero = refl
take_nil (suc n) = refl

pub printed_past : (printed : List ℕ) (at end : ℕ) → length printed ≤ at → slice_range printed at end ≡ []
printed_past printed at end past = ap (λ xs. take (end - at) xs) (drop_all at printed past) ∙ take_nil (end - at)

-- a decimal that was printed and copied
pub decimal_put : (words : List (List ℕ)) (copied text behind : List ℕ) (n word : ℕ) → copied ≡ text → n ≤ length text → IsDecimalText (take n text) word → take n (copied ++ behind) ≡ shown words Decimal word
decimal_put words copied text behind n word same within is =
    ap (λ t. take n (t ++ behind)) same ∙ take-append-le n text behind within ∙ decimal_shown words (take n text) word is

no_start : (n : ℕ) → n - 0 ≡ n
no_start n = omega arith

pub from_start : (printed : List ℕ) (end : ℕ) → slice_range printed 0 end ≡ take end printed
from_start printed end = ap (λ n. take n printed) (no_start end)

-- a variable that is shown
pub shown_put : (printed word text : List ℕ) (end : ℕ) → take end printed ≡ text → word ≡ [] → slice_range printed 0 end ++ word ≡ text
shown_put printed word text end same none = ap (λ l. slice_range printed 0 end ++ l) none ∙ append-nil (slice_range printed 0 end) ∙ from_start printed end ∙ same

-- ---- a whole row

pub spelling_left : (row : Row) (types words : List (List ℕ)) (text printed : List ℕ) (end : ℕ) → HasSpelling row types words → slice_get types row.log_type ≡ Some text
    → HasStampText row.pattern row.moment (take end printed) → IsSpelling row types words (left_of printed 0 end [] words text row.words)
spelling_left row types words text printed end (message, is) at stamped =
    let found : Some text ≡ Some (type_text (map symbol_of is.parts)) = sym at ∙ is.typed in
    let same : text ≡ type_text (map symbol_of is.parts) = cc in
    record {
      stamp = take end printed;
      parts = is.parts;
      typed = is.typed;
      written = is.written;
      stamped = stamped;
      is = ap₂ (λ (s b : List ℕ). s ++ b) (from_start printed end) (ap (λ t. body_from false words t row.words) same ∙ body_is words is.parts row.words is.written);
    }

pub accepts_by : {A : Type 0} (P : List ℕ → Type 0) (row : Row) (types words : List (List ℕ)) (left message : List ℕ) → IsSpelling row types words left → IsSpelling row types words message → (A ↔ P left) → A ↔ P message
accepts_by {A} P row types words left message mine theirs tells = subst (λ m. A ↔ P m) (one_spelling row types words left message mine theirs) tells

-- ---- what is left, step by step

pub left_printed : (printed : List ℕ) (at end : ℕ) (word : List ℕ) (words : List (List ℕ)) (text row all : List ℕ) (b : ℕ) → left_of printed at end word words text row ≡ all
    → slice_range printed at end ≡ b ∷ slice_range printed (at + 1) end → all ≡ b ∷ left_of printed (at + 1) end word words text row
left_printed printed at end word words text row all b whole first = sym whole ∙ ap (λ l. l ++ (word ++ body_from false words text row)) first

pub left_word : (printed : List ℕ) (at end : ℕ) (word : List ℕ) (words : List (List ℕ)) (text row all : List ℕ) (b : ℕ) (behind : List ℕ) → left_of printed at end word words text row ≡ all
    → slice_range printed at end ≡ [] → word ≡ b ∷ behind → all ≡ b ∷ left_of printed at end behind words text row
left_word printed at end word words text row all b behind whole none cut =
    sym whole ∙ ap (λ l. slice_range printed at end ++ (l ++ body_from false words text row)) cut
    ∙ ap (λ l. l ++ (b ∷ (behind ++ body_from false words text row))) none
    ∙ ap (λ l. b ∷ (l ++ (behind ++ body_from false words text row))) (sym none)

-- nothing is left of a variable
body_left : (printed : List ℕ) (at end : ℕ) (word : List ℕ) (words : List (List ℕ)) (text row : List ℕ) → slice_range printed at end ≡ [] → word ≡ []
    → left_of printed at end word words text row ≡ body_from false words text row
body_left printed at end word words text row none no_word = ap₂ (λ (p w : List ℕ). p ++ (w ++ body_from false words text row)) none no_word

pub left_byte : (printed : List ℕ) (at end : ℕ) (word : List ℕ) (words : List (List ℕ)) (text row all : List ℕ) (symbol : Symbol) (b : ℕ) (after : List ℕ) → left_of printed at end word words text row ≡ all
    → slice_range printed at end ≡ [] → word ≡ [] → text ≡ text_of_symbol symbol ++ after → symbol ≡ Byte b → all ≡ b ∷ left_of printed at end word words after row
left_byte printed at end word words text row all symbol b after whole none no_word cut is =
    sym whole ∙ body_left printed at end word words text row none no_word
    ∙ ap (λ t. body_from false words t row) (cut ∙ ap (λ s. text_of_symbol s ++ after) is)
    ∙ body_byte words b after row ∙ ap (λ l. b ∷ l) (sym (body_left printed at end word words after row none no_word))

pub left_stuck : (printed : List ℕ) (at end : ℕ) (word : List ℕ) (words : List (List ℕ)) (text row all : List ℕ) → left_of printed at end word words text row ≡ all
    → slice_range printed at end ≡ [] → word ≡ [] → ((symbol : Symbol) (rest : List ℕ) → text ≢ text_of_symbol symbol ++ rest) → (all ≡ []) × (left_of printed at end word words text row ≡ [])
left_stuck printed at end word words text row all whole none no_word stuck =
    let nothing = body_left printed at end word words text row none no_word ∙ body_stuck words text row stuck in
    (sym whole ∙ nothing, nothing)

pub left_short : (printed : List ℕ) (at end : ℕ) (word : List ℕ) (words : List (List ℕ)) (text row all : List ℕ) (symbol : Symbol) (kind : Kind) (after : List ℕ) → left_of printed at end word words text row ≡ all
    → slice_range printed at end ≡ [] → word ≡ [] → text ≡ text_of_symbol symbol ++ after → symbol ≡ Slot kind → row ≡ [] → (all ≡ []) × (left_of printed at end word words text row ≡ [])
left_short printed at end word words text row all symbol kind after whole none no_word cut is no_row =
    let nothing = body_left printed at end word words text row none no_word
    ∙ ap₂ (λ (t r : List ℕ). body_from false words t r) (cut ∙ ap (λ s. text_of_symbol s ++ after) is) no_row ∙ body_no_word words kind after in
    (sym whole ∙ nothing, nothing)

pub left_slot : (printed : List ℕ) (at end : ℕ) (word : List ℕ) (words : List (List ℕ)) (text row all : List ℕ) (symbol : Symbol) (kind : Kind) (after : List ℕ) (w : ℕ) (left : List ℕ) (now : List ℕ) (start stop : ℕ) (shows : List ℕ)
    → left_of printed at end word words text row ≡ all → slice_range printed at end ≡ [] → word ≡ [] → text ≡ text_of_symbol symbol ++ after → symbol ≡ Slot kind → row ≡ w ∷ left
    → slice_range now start stop ++ shows ≡ shown words kind w → left_of now start stop shows words after left ≡ all
left_slot printed at end word words text row all symbol kind after w left now start stop shows whole none no_word cut is row_is show =
    sym (append_assoc (slice_range now start stop) shows (body_from false words after left))
    ∙ ap (λ l. l ++ body_from false words after left) show
    ∙ sym (body_slot words kind after w left)
    ∙ sym (ap₂ (λ (t r : List ℕ). body_from false words t r) (cut ∙ ap (λ s. text_of_symbol s ++ after) is) row_is)
    ∙ sym (body_left printed at end word words text row none no_word) ∙ whole

pub nothing_there : (xs : List ℕ) → length xs ≡ 0 → xs ≡ []
nothing_there [] none = refl
nothing_there (x ∷ xs) none = absurd (omega arith)
