-- What a message has that a row is the encoding of.
use Rattle.std.proofs.Common.{◌≡◌, inl, inr, ℕ, zero, suc, ◌<◌, Bool, true, false, List, [], ◌∷◌, ◌++◌, length, map, Some, ℤ, nat_abs, refl, sym, ◌∙◌, ap, subst, arith, length-append, cond}
use Rattle.std.specs.Prelude.{slice_get}
use Rattle.std.specs.Int.{IsInRange}
use Rattle.std.specs.Fmt.{decimal, sign_text}
use Rattle.std.specs.Str.Parse.{AllDigits}
use Rattle.std.proofs.lemmas.Fmt.{decimal_is_IsNumeral}
use Rattle.std.proofs.lemmas.Str.Parse.{digit_from_value}
use Rattle.var_codec.specs.Codes.{IsDecimalText, IsWholeText}
use Rattle.var_codec.proofs.Texts.{all_digits, is_below_zero, signed_is, size_le}
use Rattle.logtype_text.specs.declared.symbols.Kind.TheVariants.{Whole, Word, Decimal}
use Rattle.logtype_text.specs.declared.symbols.Symbol.TheVariants.{Byte}
use Rattle.logtype_text.specs.Parts.{Part, Constant, Variable, joined, symbol_of}
use Rattle.logtype_text.specs.TypeText.{is_escaped, text_of_symbol, type_text}
use Rattle.column_store.specs.declared.row.Row.{Row}
use Rattle.row_codec.specs.Means.{EachWord, HasStampText, HasWord, IsCanonical}
use Rattle.stamp_templates.specs.Laws.{StandsInNone}
use Rattle.wild_match.specs.Matches.{Match}
use Rattle.wild_match.specs.declared.pattern.Item.{Item}
use Rattle.pair_sieve.specs.Pairs.{Begins, Supplies, HasPair, IsPairOf, IsOfNumber}
use Rattle.pair_sieve.proofs.PairLemmas.{Lacks, behind, first_past_word, lacks_byte, matched_has, past_other, past_word}

-- ---- the symbols of constants

symbol_text : (b : ℕ) (e : Bool) → is_escaped b ≡ e → text_of_symbol (Byte b) ≡ cond e (0x5C ∷ b ∷ []) (b ∷ [])
symbol_text b e is = ap (λ (t : Bool). cond t (0x5C ∷ b ∷ []) (b ∷ [])) is

plain_symbol : (b : ℕ) → is_escaped b ≡ false → text_of_symbol (Byte b) ≡ b ∷ []
plain_symbol b is = symbol_text b false is

-- behind a constant x, with or without its `\`, comes what begins with y
behind_symbol : (x y b : ℕ) (text : List ℕ) → b ≡ x → Begins y text → HasPair x y (text_of_symbol (Byte b) ++ text)
behind_symbol x y b text same begins = by (is_escaped b) refl
  where
    by : (e : Bool) → is_escaped b ≡ e → HasPair x y (text_of_symbol (Byte b) ++ text)
    by true is = subst (λ l. HasPair x y (l ++ text)) (sym (symbol_text b true is)) (inr (inl (same, begins)))
    by false is = subst (λ l. HasPair x y (l ++ text)) (sym (symbol_text b false is)) (inl (same, begins))

-- ---- the texts of numbers

module _ (x : ℕ) (other : ¬ IsOfNumber x) where
  digits_lack : (s : List ℕ) → AllDigits 10 s → Lacks x s
  digits_lack [] all = tt
  digits_lack (c ∷ s) all =
      (λ same. other (inl (subst (λ b. IsInRange 48 57 b) same (digit_from_value c all.0))), digits_lack s all.1)

  lacks_joined : (s t : List ℕ) → Lacks x s → Lacks x t → Lacks x (s ++ t)
  lacks_joined [] t one two = two
  lacks_joined (c ∷ s) t one two = (one.0, lacks_joined s t one.1 two)

  sign_lacks : (negative : Bool) → Lacks x (sign_text negative)
  sign_lacks true = (λ same. other (inr (inl (sym same))), tt)
  sign_lacks false = tt

  whole_lacks : (text : List ℕ) (n : ℤ) → IsWholeText text n → Lacks x text
  whole_lacks text n is =
      subst (Lacks x) (sym (is.prints ∙ signed_is n))
      (lacks_joined (sign_text (is_below_zero n)) (decimal (nat_abs n)) (sign_lacks (is_below_zero n)) (digits_lack (decimal (nat_abs n)) (all_digits (nat_abs n) (size_le n is.fits))))

  decimal_lacks : (text : List ℕ) (word : ℕ) → IsDecimalText text word → Lacks x text
  decimal_lacks text word is =
      let d = is.parts in
      subst (Lacks x) (sym is.prints) (lacks_joined (sign_text d.negative) (d.before ++ (46 ∷ d.after)) (sign_lacks d.negative)
      (lacks_joined d.before (46 ∷ d.after) (digits_lack d.before is.decimal.before)
      (λ same. other (inr (inr (sym same))), digits_lack d.after is.decimal.after.1)))

-- a text that is not empty and lacks y does not begin with it, whatever is behind
first_lacks : (y : ℕ) (text rest : List ℕ) → 0 < length text → Lacks y text → Begins y (text ++ rest) → ⊥
first_lacks y [] rest some lacks begins = omega (arith, some)
first_lacks y (b ∷ text) rest some lacks begins = lacks.0 begins

some_joined : (s t : List ℕ) → 0 < length t → 0 < length (s ++ t)
some_joined s t some = omega (arith, length-append s t)

whole_some : (text : List ℕ) (n : ℤ) → IsWholeText text n → 0 < length text
whole_some text n is =
    subst (λ (l : List ℕ). 0 < length l) (sym (is.prints ∙ signed_is n))
    (some_joined (sign_text (is_below_zero n)) (decimal (nat_abs n)) (decimal_is_IsNumeral (nat_abs n) (omega (arith, size_le n is.fits))).0.0)

decimal_some : (text : List ℕ) (word : ℕ) → IsDecimalText text word → 0 < length text
decimal_some text word is =
    let d = is.parts in
    subst (λ (l : List ℕ). 0 < length l) (sym is.prints) (some_joined (sign_text d.negative) (d.before ++ (46 ∷ d.after)) (some_joined d.before (46 ∷ d.after) (omega arith)))

-- ---- the parts of a message

module _ (x y : ℕ) (words : List (List ℕ)) where
  -- no word of the row can supply the pair
  abbrev pub NoneSupplies : List ℕ → Type 0
  NoneSupplies [] = Unit {0}
  NoneSupplies (v ∷ row) = ((word : List ℕ) → slice_get words v ≡ Some word → ¬ Supplies x y word) × NoneSupplies row

  module _ (x_other : ¬ IsOfNumber x) (y_other : ¬ IsOfNumber y) (plain : is_escaped y ≡ false) where
    -- the byte that comes first is y: so it is in the log type's text
    first_in : (parts : List Part) (row : List ℕ) → EachWord (HasWord words) parts row → NoneSupplies row → Begins y (joined parts) → Begins y (type_text (map symbol_of parts))
    first_in [] row has none begins = begins
    first_in (Constant b ∷ parts) row has none begins =
        subst (λ l. Begins y (l ++ type_text (map symbol_of parts))) (sym (plain_symbol b (ap is_escaped begins ∙ plain))) begins
    first_in (Variable kind text ∷ parts) [] has none begins = absurd has
    first_in (Variable Whole text ∷ parts) (v ∷ row) has none begins =
        absurd (first_lacks y text (joined parts) (whole_some text has.0.0 has.0.1) (whole_lacks y y_other text has.0.0 has.0.1) begins)
    first_in (Variable Word text ∷ parts) (v ∷ row) has none begins =
        absurd (first_past_word x y text (joined parts) (none.0 text has.0.1) begins)
    first_in (Variable Decimal text ∷ parts) (v ∷ row) has none begins =
        absurd (first_lacks y text (joined parts) (decimal_some text v has.0) (decimal_lacks y y_other text v has.0) begins)

    -- the parts have the pair: so the log type's text has it
    pair_in : (parts : List Part) (row : List ℕ) → EachWord (HasWord words) parts row → NoneSupplies row → HasPair x y (joined parts) → HasPair x y (type_text (map symbol_of parts))
    pair_in [] row has none pair = pair
    pair_in (Constant b ∷ parts) row has none (inl pair) =
        behind_symbol x y b (type_text (map symbol_of parts)) pair.0 (first_in parts row has none pair.1)
    pair_in (Constant b ∷ parts) row has none (inr pair) = behind x y (text_of_symbol (Byte b)) (type_text (map symbol_of parts)) (pair_in parts row has none pair)
    pair_in (Variable kind text ∷ parts) [] has none pair = absurd has
    pair_in (Variable Whole text ∷ parts) (v ∷ row) has none pair =
        inr (pair_in parts row has.1 none.1 (past_other x y text (joined parts) (whole_lacks x x_other text has.0.0 has.0.1) pair))
    pair_in (Variable Word text ∷ parts) (v ∷ row) has none pair =
        inr (pair_in parts row has.1 none.1 (past_word x y text (joined parts) (none.0 text has.0.1) pair))
    pair_in (Variable Decimal text ∷ parts) (v ∷ row) has none pair =
        inr (pair_in parts row has.1 none.1 (past_other x y text (joined parts) (decimal_lacks x x_other text v has.0) pair))

-- ---- the whole message

stamp_lacks : (x k : ℕ) (moment : ℤ) (text : List ℕ) → ((k : ℕ) → StandsInNone k (x ∷ [])) → HasStampText k moment text → Lacks x text
stamp_lacks x zero moment text never is = subst (Lacks x) (sym is.1) tt
stamp_lacks x (suc k) moment text never is = lacks_byte x text (never (suc k) moment text is)

-- the log type of a message that the pattern matches has the pair, or a word of its row supplies it
pub type_has : (pattern : List Item) (x y version : ℕ) (row : Row) (types words : List (List ℕ)) (message : List ℕ) → IsPairOf pattern x y → IsCanonical version row types words message
    → NoneSupplies x y words row.words → Match pattern message → (text : List ℕ) × (slice_get types row.log_type ≡ Some text) × HasPair x y text
type_has pattern x y version row types words message of is none m =
    let means = is.means in
    let has : HasPair x y (means.stamp ++ joined means.parts) = subst (HasPair x y) means.is (matched_has x y pattern message of.stands m) in
    let body = past_other x y means.stamp (joined means.parts) (stamp_lacks x row.pattern row.moment means.stamp of.stamp means.stamped) has in (
      type_text (map symbol_of means.parts),
      means.typed,
      pair_in x y words of.first of.second of.plain means.parts row.words means.coded none body,
    )
