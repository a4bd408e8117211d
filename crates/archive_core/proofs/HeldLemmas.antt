-- Which words may stand in slots: each number may.
use Rattle.std.proofs.Common.{◌≡◌, ℕ, zero, suc, ◌<◌, ◌≤◌, ◌^◌, Bool, true, false, List, [], ◌∷◌, ◌++◌, length, drop, nat_abs, refl, sym, ◌∙◌, ap, subst, arith}
use Rattle.std.specs.Prelude.{◌↔◌, ◌||◌, ◌&&◌, Option, Some, nat_le, slice_get, slice_index}
use Rattle.std.specs.List.{list_all, list_any}
use Rattle.std.specs.Char.{digit_value}
use Rattle.std.specs.Fmt.{decimal, sign_text}
use Rattle.std.specs.Str.Parse.{AllDigits}
use Rattle.std.proofs.lemmas.Bool.Decides.{nat_tests}
use Rattle.std.proofs.lemmas.Fmt.{decimal_is_IsNumeral}
use Rattle.std.proofs.lemmas.Str.Parse.{digit_from_value}
use Rattle.token_rules.specs.Tokens.{IsDelimiter, IsVariable, is_digit, is_equals_sign, is_hexadecimal, is_letter, is_token_byte, is_variable}
use Rattle.var_codec.specs.Codes.{HasText}
use Rattle.var_codec.specs.declared.Coded.TheVariants.{Whole as WholeWord, Decimal as DecimalWord}
use Rattle.var_codec.proofs.Texts.{is_below_zero, signed_is, size_le}
use Rattle.logtype_text.specs.declared.symbols.Kind.{Kind}
use Rattle.logtype_text.specs.declared.symbols.Kind.TheVariants.{Whole, Word, Decimal}
use Rattle.logtype_text.specs.Parts.{HasKind}
use Rattle.row_codec.specs.Means.{IsWritten}
use Rattle.row_codec.specs.StepsBody.{HasNoText}
use Rattle.row_codec.specs.StepsCut.{IsHeldToken, IsHeldWord}
use Rattle.row_codec.proofs.BodyLemmas.{whole_writing}
use Rattle.archive_core.specs.declared.slots.Slot.{Slot}
use Rattle.archive_core.specs.Slots.{AreHeld}

-- each byte is one of tokens
abbrev Plain : List ℕ → Type 0
Plain [] = Unit {0}
Plain (b ∷ bytes) = (¬ IsDelimiter b) × Plain bytes

plain_append : (a b : List ℕ) → Plain a → Plain b → Plain (a ++ b)
plain_append [] b one other = other
plain_append (x ∷ a) b one other = (one.0, plain_append a b one.1 other)

plain_at : (bytes : List ℕ) → Plain bytes → (k : ℕ) → k < length bytes → ¬ IsDelimiter (slice_index bytes k)
plain_at [] are k within = absurd (omega (arith, within))
plain_at (b ∷ bytes) are zero within = are.0
plain_at (b ∷ bytes) are (suc k) within = plain_at bytes are.1 k (omega (arith, within))

in_digits : (b : ℕ) → 48 ≤ b → b ≤ 57 → is_digit b ≡ true
in_digits b low high = grind (arith, nat_tests)

is_a_digit : (b : ℕ) → digit_value b < 10 → is_digit b ≡ true
is_a_digit b small = let is = digit_from_value b small in in_digits b (omega (arith, is)) (omega (arith, is))

digit_token : (b : ℕ) → is_digit b ≡ true → ¬ IsDelimiter b
unfolding is_token_byte
digit_token b is delimiter = grind (arith, nat_tests)

minus_token : ¬ IsDelimiter 45
unfolding is_token_byte
minus_token is = cc

point_token : ¬ IsDelimiter 46
unfolding is_token_byte
point_token is = cc

digits_plain : (ds : List ℕ) → AllDigits 10 ds → Plain ds
digits_plain [] are = tt
digits_plain (d ∷ ds) are = (digit_token d (is_a_digit d are.0), digits_plain ds are.1)

any_first : (x y : Bool) → x ≡ true → (x || y) ≡ true
any_first true y is = refl
any_first false y is = absurd (cc (is))

any_rest : (x y : Bool) → y ≡ true → (x || y) ≡ true
any_rest true y is = refl
any_rest false y is = is

some_digit : (ds : List ℕ) → 0 < length ds → AllDigits 10 ds → list_any is_digit ds ≡ true
some_digit [] some are = absurd (omega (arith, some))
some_digit (d ∷ ds) some are = any_first (is_digit d) (list_any is_digit ds) (is_a_digit d are.0)

digit_behind : (a b : List ℕ) → list_any is_digit b ≡ true → list_any is_digit (a ++ b) ≡ true
digit_behind [] b is = is
digit_behind (x ∷ a) b is = any_rest (is_digit x) (list_any is_digit (a ++ b)) (digit_behind a b is)

digit_varies : (prev : Option ℕ) (text : List ℕ) → list_any is_digit text ≡ true → IsVariable prev text
unfolding is_variable
digit_varies prev text is =
    ap (λ x. x || (is_equals_sign prev && list_any is_letter text) || (nat_le 2 (length text) && list_all is_hexadecimal text)) is

some_bytes : (text : List ℕ) → list_any is_digit text ≡ true → 0 < length text
some_bytes [] is = absurd (cc (is))
some_bytes (b ∷ text) is = omega arith

sign_plain : (m : Bool) → Plain (sign_text m)
sign_plain true = (minus_token, tt)
sign_plain false = tt

-- a text with a digit and no delimiter
number_held : (words : List (List ℕ)) (prev : Option ℕ) (kind : Kind) (word : ℕ) (text : List ℕ) → IsWritten words kind text word → HasKind text kind → Plain text → list_any is_digit text ≡ true → IsHeldWord words prev kind word
number_held words prev kind word text written has_kind are some = record {
  token = text;
  written = written;
  text = record { some = some_bytes text some; unbroken = plain_at text are };
  variable = digit_varies prev text some;
  has_kind = has_kind;
}

pub whole_held : (words : List (List ℕ)) (prev : Option ℕ) (word : ℕ) → word < 2 ^ 64 → IsHeldWord words prev Whole word
whole_held words prev word fits =
    let (text, (n, codes, is)) = whole_writing words word fits in
    let number = decimal_is_IsNumeral (nat_abs n) (omega (arith, size_le n codes.fits)) in
    let same : text ≡ sign_text (is_below_zero n) ++ decimal (nat_abs n) = codes.prints ∙ signed_is n in
    number_held words prev Whole word text (n, codes, is) (WholeWord n, codes, refl)
    (subst Plain (sym same) (plain_append (sign_text (is_below_zero n)) (decimal (nat_abs n)) (sign_plain (is_below_zero n)) (digits_plain (decimal (nat_abs n)) number.0.1)))
    (ap (λ l. list_any is_digit l) same ∙ digit_behind (sign_text (is_below_zero n)) (decimal (nat_abs n)) (some_digit (decimal (nat_abs n)) number.0.0 number.0.1))

pub decimal_held : (words : List (List ℕ)) (prev : Option ℕ) (word : ℕ) → HasText word ↔ IsHeldWord words prev Decimal word
decimal_held words prev word = (
  λ (text, codes).
      let d = codes.parts in
      let tail : Plain (46 ∷ d.after) = (point_token, digits_plain d.after codes.decimal.after.1) in
      let digit = digit_behind d.before (46 ∷ d.after) (some_digit d.after codes.decimal.after.0 codes.decimal.after.1) in
      number_held words prev Decimal word text codes (DecimalWord word, codes, refl)
      (subst Plain (sym codes.prints) (plain_append (sign_text d.negative) (d.before ++ (46 ∷ d.after)) (sign_plain d.negative) (plain_append d.before (46 ∷ d.after) (digits_plain d.before codes.decimal.before) tail)))
      (ap (λ l. list_any is_digit l) codes.prints ∙ digit_behind (sign_text d.negative) (d.before ++ (46 ∷ d.after)) digit),
  λ has. (has.token, has.written),
)

-- the word of the dictionary
pub word_held : (words : List (List ℕ)) (prev : Option ℕ) (word : ℕ) (text : List ℕ) → slice_get words word ≡ Some text → (IsHeldToken prev text × HasKind text Word) ↔ IsHeldWord words prev Word word
word_held words prev word text at = (
  λ is. record { token = text; written = at; text = is.0.text; variable = is.0.variable; has_kind = is.1 },
  λ has.
      let found : Some has.token ≡ Some text = sym has.written ∙ at in
      let same : has.token ≡ text = cc in
      subst (λ t. IsHeldToken prev t × HasKind t Word) same (record { text = has.text; variable = has.variable }, has.has_kind),
)

pub no_word_held : (words : List (List ℕ)) (prev : Option ℕ) (word : ℕ) → HasNoText words word → ¬ IsHeldWord words prev Word word
no_word_held words prev word none has = none has.token has.written

-- there is no word for a slot
pub held_short : (words : List (List ℕ)) (slots : List Slot) (i : ℕ) (row left : List ℕ) → i < length slots → length left < 1
    → (AreHeld words slots row ↔ AreHeld words (drop i slots) left) → ¬ AreHeld words slots row
held_short words slots i row left within short so_far all = none slots i left within short (so_far.0 all) where
  none : (slots : List Slot) (i : ℕ) (left : List ℕ) → i < length slots → length left < 1 → AreHeld words (drop i slots) left → ⊥
  none [] i left within short are = absurd (omega (arith, within))
  none (s ∷ slots) zero [] within short are = are
  none (s ∷ slots) zero (w ∷ left) within short are = absurd (omega (arith, short))
  none (s ∷ slots) (suc i) left within short are = none slots i left (omega (arith, within)) short are
