-- What an encoder read and named is the row of its message.
use Rattle.std.proofs.Common.{◌≡◌, ℕ, ◌+◌, ◌-◌, ◌*◌, ◌<◌, ◌≤◌, Bool, true, false, cond, List, [], ◌∷◌, ◌++◌, length, map, take, drop, get_or, refl, sym, ◌∙◌, ap, subst, arith, inl, inr, length-append, length-take-le, take-append-drop}
use Rattle.std.specs.Prelude.{ℤ, pos, Option, None, Some, All, IfNone, IfSome, IsTrue, ◌↔◌, slice_get, slice_index_or, slice_range}
use Rattle.std.proofs.lemmas.List.{take_rest}
use Rattle.std.specs.List.{Contains}
use Rattle.std.proofs.lemmas.Bool.{both_ways, cases_lt}
use Rattle.std.proofs.lemmas.Bool.Decides.{nat_tests}
use Rattle.std.proofs.lemmas.List.Elements.{All-map, All-weaker}
use Rattle.std.proofs.lemmas.Option.{get_or_from_slice_get, slice_get-get_or}
use Rattle.var_codec.specs.declared.Coded.{Coded}
use Rattle.var_codec.specs.declared.Coded.TheVariants.{Whole as WholeWord, Decimal as DecimalWord, Word as DictionaryWord}
use Rattle.logtype_text.specs.declared.symbols.Kind.{Kind}
use Rattle.logtype_text.specs.declared.symbols.Kind.TheVariants.{Whole, Word, Decimal}
use Rattle.logtype_text.specs.declared.symbols.Symbol.TheVariants.{Byte}
use Rattle.logtype_text.specs.declared.spans.Span.{Span}
use Rattle.logtype_text.specs.declared.TheConstants.{MAX_WORD_LEN}
use Rattle.logtype_text.specs.Parts.{Part, Constant, Variable, AreParts, StandAt, joined, symbol_of}
use Rattle.logtype_text.specs.TypeText.{is_escaped, text_of_symbol, type_text}
use Rattle.logtype_text.specs.Encoded.{AreCoded, AreWithin, IsEncoded, texts_at, word_texts}
use Rattle.logtype_text.specs.Fair.{IsFairType, IsFairWord}
use Rattle.logtype_text.specs.Laws.{GoodIsTypeText}
use Rattle.token_rules.proofs.ClassLemmas.{length-slice_range}
use Rattle.time_patterns.specs.Stamps.{HasNoStamp, HasStamp, IsStampOf}
use Rattle.time_patterns.proofs.VersionLemmas.{alike_versions}
use Rattle.time_patterns.specs.declared.stamps.Stamp.{Stamp}
use Rattle.column_store.specs.declared.row.Row.{Row}
use Rattle.row_codec.specs.Means.{EachWord, HasWord, IsCanonical}
use Rattle.row_codec.specs.declared.namer.Which.{Which}
use Rattle.row_codec.specs.declared.namer.Which.TheVariants.{Types, Words}
use Rattle.row_codec.specs.Messages.{IsCutInto, IsTypeOf, IsWordOf}
use Rattle.row_codec.specs.Naming.{AreNumbers, HasGrown, Known, MeetsLimit, MetLimit}
use Rattle.row_codec.specs.Numbers.{kinds_from, word_numbers}
use Rattle.row_codec.specs.Steps.{front_of, words_of}
use Rattle.row_codec.proofs.StampLemmas.{fits_front, has_stamp, stamp_front}

-- the words that were made are those of the parts
pub words_are : (words : List (List ℕ)) (parts : List Part) (codes : List Coded) (numbers : List ℕ) → AreCoded parts codes → AreNumbers words numbers (word_texts parts) → EachWord (HasWord words) parts (words_of codes numbers)
words_are words [] [] numbers coded named = tt
words_are words [] (c ∷ codes) numbers coded named = absurd coded
words_are words (Constant b ∷ parts) codes numbers coded named = words_are words parts codes numbers coded named
words_are words (Variable kind text ∷ parts) [] numbers coded named = absurd coded
words_are words (Variable Whole text ∷ parts) (WholeWord n ∷ codes) numbers coded named = ((n, coded.0, refl), words_are words parts codes numbers coded.2 named)
words_are words (Variable Whole text ∷ parts) (DecimalWord w ∷ codes) numbers coded named = absurd (cc (coded.1))
words_are words (Variable Whole text ∷ parts) (DictionaryWord ∷ codes) numbers coded named = absurd (cc (coded.1))
words_are words (Variable Decimal text ∷ parts) (WholeWord n ∷ codes) numbers coded named = absurd (cc (coded.1))
words_are words (Variable Decimal text ∷ parts) (DecimalWord w ∷ codes) numbers coded named = (coded.0, words_are words parts codes numbers coded.2 named)
words_are words (Variable Decimal text ∷ parts) (DictionaryWord ∷ codes) numbers coded named = absurd (cc (coded.1))
words_are words (Variable Word text ∷ parts) (WholeWord n ∷ codes) numbers coded named = absurd (cc (coded.1))
words_are words (Variable Word text ∷ parts) (DecimalWord w ∷ codes) numbers coded named = absurd (cc (coded.1))
words_are words (Variable Word text ∷ parts) (DictionaryWord ∷ codes) [] coded named = absurd named
words_are words (Variable Word text ∷ parts) (DictionaryWord ∷ codes) (n ∷ numbers) coded named = ((coded.0, named.0), words_are words parts codes numbers coded.2 named.1)

-- the kinds of slots, from the left
abbrev pub slots : List Part → List Kind
slots [] = []
slots (Constant b ∷ parts) = slots parts
slots (Variable kind text ∷ parts) = kind ∷ slots parts

-- a constant byte's text has no slot
kinds_byte : (b : ℕ) (e : Bool) (rest : List ℕ) → is_escaped b ≡ e → kinds_from false (cond e (0x5C ∷ b ∷ []) (b ∷ []) ++ rest) ≡ kinds_from false rest
kinds_byte b true rest is = refl
kinds_byte b false rest is = grind (arith, nat_tests)

pub kinds_are : (parts : List Part) → kinds_from false (type_text (map symbol_of parts)) ≡ slots parts
kinds_are [] = refl
kinds_are (Constant b ∷ parts) = kinds_byte b (is_escaped b) (type_text (map symbol_of parts)) refl ∙ kinds_are parts
kinds_are (Variable Whole text ∷ parts) = ap (λ l. Whole ∷ l) (kinds_are parts)
kinds_are (Variable Word text ∷ parts) = ap (λ l. Word ∷ l) (kinds_are parts)
kinds_are (Variable Decimal text ∷ parts) = ap (λ l. Decimal ∷ l) (kinds_are parts)

-- the dictionary numbers among the words are those that were given
pub numbers_are : (words : List (List ℕ)) (parts : List Part) (codes : List Coded) (numbers : List ℕ) → AreCoded parts codes → AreNumbers words numbers (word_texts parts) → word_numbers (slots parts) (words_of codes numbers) ≡ numbers
numbers_are words [] [] [] coded named = refl
numbers_are words [] [] (n ∷ numbers) coded named = absurd named
numbers_are words [] (c ∷ codes) numbers coded named = absurd coded
numbers_are words (Constant b ∷ parts) codes numbers coded named = numbers_are words parts codes numbers coded named
numbers_are words (Variable kind text ∷ parts) [] numbers coded named = absurd coded
numbers_are words (Variable Whole text ∷ parts) (WholeWord n ∷ codes) numbers coded named = numbers_are words parts codes numbers coded.2 named
numbers_are words (Variable Whole text ∷ parts) (DecimalWord w ∷ codes) numbers coded named = absurd (cc (coded.1))
numbers_are words (Variable Whole text ∷ parts) (DictionaryWord ∷ codes) numbers coded named = absurd (cc (coded.1))
numbers_are words (Variable Decimal text ∷ parts) (WholeWord n ∷ codes) numbers coded named = absurd (cc (coded.1))
numbers_are words (Variable Decimal text ∷ parts) (DecimalWord w ∷ codes) numbers coded named = numbers_are words parts codes numbers coded.2 named
numbers_are words (Variable Decimal text ∷ parts) (DictionaryWord ∷ codes) numbers coded named = absurd (cc (coded.1))
numbers_are words (Variable Word text ∷ parts) (WholeWord n ∷ codes) numbers coded named = absurd (cc (coded.1))
numbers_are words (Variable Word text ∷ parts) (DecimalWord w ∷ codes) numbers coded named = absurd (cc (coded.1))
numbers_are words (Variable Word text ∷ parts) (DictionaryWord ∷ codes) [] coded named = absurd named
numbers_are words (Variable Word text ∷ parts) (DictionaryWord ∷ codes) (n ∷ numbers) coded named = ap (λ l. n ∷ l) (numbers_are words parts codes numbers coded.2 named.1)

-- a log type's text has at most twice as many bytes as the body
symbol_short : (b : ℕ) (e : Bool) → length (cond e (0x5C ∷ b ∷ []) (b ∷ [])) ≤ 2
symbol_short b true = omega arith
symbol_short b false = omega arith

text_short : (body : List ℕ) (at : ℕ) (parts : List Part) → StandAt body at parts → length (type_text (map symbol_of parts)) ≤ 2 * length (joined parts)
text_short body at [] stand = omega arith
text_short body at (Constant b ∷ parts) stand =
    let rest = text_short body (at + 1) parts stand.1 in
    let here = symbol_short b (is_escaped b) in
    omega (arith, length-append (text_of_symbol (Byte b)) (type_text (map symbol_of parts)))
text_short body at (Variable kind text ∷ parts) stand =
    let rest = text_short body (at + length text) parts stand.2 in
    let some = stand.0.token.not_empty in
    omega (arith, length-append text (joined parts))

pub fair_type : GoodIsTypeText → (body text : List ℕ) (codes : List Coded) (places : List Span) → IsEncoded body text codes places → length body ≤ MAX_WORD_LEN → IsFairType text
fair_type good body text codes places is short = record {
  good = (good text).1 (map symbol_of is.parts, sym is.typed);
  short = omega (arith, text_short body 0 is.parts is.are.stand, ap length is.typed, ap length is.are.joins);
}

pub fair_words : (body : List ℕ) (places : List Span) → AreWithin body places → length body ≤ MAX_WORD_LEN → All IsFairWord (texts_at body places)
fair_words body places within short =
    All-map IsFairWord (λ (s : Span). slice_range body s.start s.end) places
    (All-weaker (λ (s : Span). (s.start < s.end) × (s.end ≤ length body)) (λ (s : Span). IsFairWord (slice_range body s.start s.end))
    (λ s inside. let long = length-slice_range body s.start s.end inside.1 in record { some = omega (arith, inside.0, inside.1); short = omega (arith, inside.0, inside.1) }) places within)

-- a message and the parts of its body behind the stamp
pub record HasParts (version : ℕ) (line : List ℕ) (pattern : ℕ) (moment : ℤ) (n : ℕ) (parts : List Part) : Type 0 where
  pub stamped : HasStamp version line pattern moment n
  pub are : AreParts (drop n line) parts

abbrev pub cut_into : (version : ℕ) (line : List ℕ) (pattern : ℕ) (moment : ℤ) (n : ℕ) (parts : List Part) → HasParts version line pattern moment n parts → IsCutInto version line parts
cut_into version line pattern moment n parts has =
    let front = stamp_front version line pattern moment n has.stamped in
    let long : length (take n line) ≡ n = length-take-le n line front.1 in
    record {
      stamp = take n line;
      pattern = pattern;
      moment = moment;
      stamped = subst (λ m. HasStamp version line pattern moment m) (sym long) has.stamped;
      is = sym (ap (λ l. take n line ++ l) has.are.joins ∙ take-append-drop n line);
      body = subst (λ l. AreParts l parts) (sym has.are.joins) has.are;
    }

pub canonical : (version : ℕ) (line : List ℕ) (row : Row) (n : ℕ) (parts : List Part) (types words : List (List ℕ))
    → HasParts version line row.pattern row.moment n parts
    → slice_get types row.log_type ≡ Some (type_text (map symbol_of parts)) → EachWord (HasWord words) parts row.words
    → IsCanonical version row types words line
canonical version line row n parts types words has typed coded =
    let front = stamp_front version line row.pattern row.moment n has.stamped in
    let cut = cut_into version line row.pattern row.moment n parts has in
    record {
      means = record { stamp = take n line; parts = parts; typed = typed; coded = coded; stamped = front.0; is = cut.is };
      body = cut.body;
      stamp = cut.stamped;
    }

-- the dictionary numbers of the row that was made
pub row_numbers : (types : List (List ℕ)) (log_type : ℕ) (parts : List Part) (words : List (List ℕ)) (codes : List Coded) (numbers : List ℕ) → slice_get types log_type ≡ Some (type_text (map symbol_of parts)) → AreCoded parts codes → AreNumbers words numbers (word_texts parts) → word_numbers (kinds_from false (get_or types log_type [])) (words_of codes numbers) ≡ numbers
row_numbers types log_type parts words codes numbers typed coded named =
    ap (λ t. word_numbers (kinds_from false t) (words_of codes numbers)) (get_or_from_slice_get types log_type (type_text (map symbol_of parts)) [] typed)
    ∙ ap (λ k. word_numbers k (words_of codes numbers)) (kinds_are parts) ∙ numbers_are words parts codes numbers coded named

-- what the namer added are texts of the message
pub types_grown : (version : ℕ) (line : List ℕ) (pattern : ℕ) (moment : ℤ) (n : ℕ) (parts : List Part) (text : List ℕ) (old new : Known)
    → HasParts version line pattern moment n parts → text ≡ type_text (map symbol_of parts) → HasGrown (λ t. t ≡ text) old new
    → HasGrown (IsTypeOf version line) old new
types_grown version line pattern moment n parts text old new has typed grown = record {
  limit = grown.limit;
  front = grown.front;
  more = grown.more;
  added = grown.added;
  allowed = All-weaker (λ (t : List ℕ). t ≡ text) (IsTypeOf version line) (λ t same. (parts, cut_into version line pattern moment n parts has, same ∙ typed)) grown.more grown.allowed;
}

pub words_grown : (version : ℕ) (line : List ℕ) (pattern : ℕ) (moment : ℤ) (n : ℕ) (parts : List Part) (texts : List (List ℕ)) (old new : Known)
    → HasParts version line pattern moment n parts → texts ≡ word_texts parts → HasGrown (Contains texts) old new
    → HasGrown (IsWordOf version line) old new
words_grown version line pattern moment n parts texts old new has same grown = record {
  limit = grown.limit;
  front = grown.front;
  more = grown.more;
  added = grown.added;
  allowed = All-weaker (Contains texts) (IsWordOf version line) (λ t held. (parts, cut_into version line pattern moment n parts has, subst (λ l. Contains l t) same held)) grown.more grown.allowed;
}

-- a dictionary is full
pub types_full : (version : ℕ) (line : List ℕ) (pattern : ℕ) (moment : ℤ) (n : ℕ) (parts : List Part) (text : List ℕ) (book : Which) (count : ℕ) (types before words : Known)
    → HasParts version line pattern moment n parts → text ≡ type_text (map symbol_of parts) → book ≡ Types → MetLimit types (text ∷ []) count → words ≡ before
    → MeetsLimit version line book count types before words
types_full version line pattern moment n parts text book count types before words has typed is met same =
    subst (λ b. MeetsLimit version line b count types before words) (sym is)
    (parts, cut_into version line pattern moment n parts has, subst (λ t. MetLimit types (t ∷ []) count) typed met, same)

pub words_full : (version : ℕ) (line : List ℕ) (pattern : ℕ) (moment : ℤ) (n : ℕ) (parts : List Part) (text : List ℕ) (texts : List (List ℕ)) (book : Which) (count number : ℕ) (types before words : Known)
    → HasParts version line pattern moment n parts → text ≡ type_text (map symbol_of parts) → texts ≡ word_texts parts → book ≡ Words
    → slice_get types.texts number ≡ Some text → MetLimit words texts count
    → MeetsLimit version line book count types before words
words_full version line pattern moment n parts text texts book count number types before words has typed same is named met =
    subst (λ b. MeetsLimit version line b count types before words) (sym is)
    (parts, cut_into version line pattern moment n parts has, (number, named ∙ ap (λ (t : List ℕ). Some t) typed), subst (λ l. MetLimit words l count) same met)

-- the texts that are asked for
pub type_asked : (version : ℕ) (line : List ℕ) (pattern : ℕ) (moment : ℤ) (n : ℕ) (parts : List Part) (text : List ℕ)
    → HasParts version line pattern moment n parts → text ≡ type_text (map symbol_of parts) → IsTypeOf version line text
type_asked version line pattern moment n parts text has typed = (parts, cut_into version line pattern moment n parts has, typed)

contains_at : (texts : List (List ℕ)) (k : ℕ) (d : List ℕ) → k < length texts → Contains texts (slice_index_or texts k d)
contains_at texts k d lt = let x = slice_index_or texts k d in (k, lt, get_or_from_slice_get texts k x x (slice_get-get_or texts k d lt))

pub words_asked : (version : ℕ) (line : List ℕ) (pattern : ℕ) (moment : ℤ) (n : ℕ) (parts : List Part) (texts : List (List ℕ))
    → HasParts version line pattern moment n parts → texts ≡ word_texts parts → All (IsWordOf version line) texts
words_asked version line pattern moment n parts texts has same k d lt =
    (parts, cut_into version line pattern moment n parts has, subst (λ ts. Contains ts (slice_index_or texts k d)) same (contains_at texts k d lt))

-- the types that are known once the words were named too
pub types_stay : (version : ℕ) (line : List ℕ) (pattern : ℕ) (moment : ℤ) (n : ℕ) (parts : List Part) (text : List ℕ) (old mid new : Known)
    → HasParts version line pattern moment n parts → text ≡ type_text (map symbol_of parts) → HasGrown (λ t. t ≡ text) old mid → new ≡ mid
    → HasGrown (IsTypeOf version line) old new
types_stay version line pattern moment n parts text old mid new has typed grown same =
    subst (λ k. HasGrown (IsTypeOf version line) old k) (sym same) (types_grown version line pattern moment n parts text old mid has typed grown)

-- the words that are known after both
pub words_came : (version : ℕ) (line : List ℕ) (pattern : ℕ) (moment : ℤ) (n : ℕ) (parts : List Part) (texts : List (List ℕ)) (old mid new : Known)
    → HasParts version line pattern moment n parts → texts ≡ word_texts parts → HasGrown (Contains texts) mid new → mid ≡ old
    → HasGrown (IsWordOf version line) old new
words_came version line pattern moment n parts texts old mid new has same grown before =
    subst (λ k. HasGrown (IsWordOf version line) k new) before (words_grown version line pattern moment n parts texts mid new has same grown)

-- the texts at places that the code passes on
pub lent_texts : (line : List ℕ) (n : ℕ) (places lent : List Span) (texts : List (List ℕ)) → lent ≡ places → texts_at (drop n line) places ≡ texts → texts_at (take (length line - n) (drop n line)) lent ≡ texts
lent_texts line n places lent texts same are =
    ap (λ l. texts_at l lent) (take_rest line n) ∙ ap (λ l. texts_at (drop n line) l) same ∙ are

below_three : (version : ℕ) → ¬ (3 ≤ version) → version < 3
below_three version not = elim (cases_lt version 3) [ inl low ↦ low | inr high ↦ absurd (not high) ]

-- The front of a line, in each version whose stamps are those of the version that was read by.
pub front_like : (like version : ℕ) (line : List ℕ) (o : Option Stamp) → (like < 3 ↔ version < 3)
    → IfSome o (λ s. IsStampOf like line s.pattern s.moment s.len) → IfNone o (HasNoStamp like line)
    → HasStamp version line (front_of o).pattern (front_of o).moment (front_of o).len
front_like like version line None same some none = alike_versions like version line 0 (pos 0) 0 same (none, refl, refl)
front_like like version line (Some s) same some none = alike_versions like version line s.pattern s.moment s.len same (has_stamp like line s.pattern s.moment s.len some)

-- the front of a line, by whether moments count microseconds
pub front_micro : (version : ℕ) (line : List ℕ) (micro : Bool) (o : Option Stamp) → micro ≡ true → (IsTrue micro ↔ (3 ≤ version))
    → IfSome o (λ s. IsStampOf 3 line s.pattern s.moment s.len) → IfNone o (HasNoStamp 3 line)
    → HasStamp version line (front_of o).pattern (front_of o).moment (front_of o).len
front_micro version line micro o is tells some none =
    let high = tells.0 is in
    front_like 3 version line o (λ low. absurd (omega arith), λ low. absurd (omega arith)) some none

pub front_milli : (version : ℕ) (line : List ℕ) (micro : Bool) (o : Option Stamp) → micro ≡ false → (IsTrue micro ↔ (3 ≤ version))
    → IfSome o (λ s. IsStampOf 1 line s.pattern s.moment s.len) → IfNone o (HasNoStamp 1 line)
    → HasStamp version line (front_of o).pattern (front_of o).moment (front_of o).len
front_milli version line micro o not tells some none =
    let low : version < 3 = below_three version (λ high. let is : micro ≡ true = tells.1 high in both_ways micro not is) in
    let one : 1 < 3 = omega arith in
    front_like 1 version line o (λ _. low, λ _. one) some none

pub front_inside : (like : ℕ) (line : List ℕ) (o : Option Stamp) → IfSome o (λ s. IsStampOf like line s.pattern s.moment s.len) → (front_of o).len ≤ length line
front_inside like line None some = omega arith
front_inside like line (Some s) some = (fits_front line s.pattern s.moment s.len some.fits).1
