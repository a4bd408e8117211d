-- What is stored of the front of a body, and of one step more.
use Rattle.std.proofs.Common.{◌≡◌, ℕ, ◌+◌, ◌-◌, ◌<◌, ◌≤◌, Bool, true, false, not, ◌&&◌, cond, get_or, List, [], ◌∷◌, ◌++◌, length, map, take, refl, sym, ◌∙◌, ap, ap₂, subst, arith, length-take-le}
use Rattle.std.specs.Prelude.{slice_range, All}
use Rattle.std.proofs.lemmas.List.{append-nil, map-append, take_all}
use Rattle.std.proofs.lemmas.List.Elements.{All-more, All-nil, All-push, All-head, All-tail}
use Rattle.std.proofs.lemmas.Bool.{both_ways}
use Rattle.std.proofs.lemmas.Grind.{flat_map-append}
use Rattle.std.proofs.Math.Seq.{take-add}
use Rattle.var_codec.specs.Codes.{Codes}
use Rattle.var_codec.specs.declared.Coded.{Coded}
use Rattle.var_codec.specs.declared.Coded.TheVariants.{Whole as WholeWord, Decimal as DecimalWord, Word as DictionaryWord}
use Rattle.token_rules.proofs.ClassLemmas.{length-slice_range}
use Rattle.logtype_text.specs.declared.symbols.Kind.TheVariants.{Whole, Word, Decimal}
use Rattle.logtype_text.specs.declared.symbols.Symbol.TheVariants.{Byte}
use Rattle.logtype_text.specs.declared.spans.Span.{Span}
use Rattle.logtype_text.specs.Parts.{Part, Constant, Variable, text_of_part, joined, kind_of, HasKind, IsVariableToken, IsFree, StandAt, symbol_of}
use Rattle.logtype_text.specs.TypeText.{is_escaped, placeholder, text_of_symbol, type_text}
use Rattle.logtype_text.specs.Encoded.{AreCoded, AreWithin, IsEncoded, texts_at, word_texts}
use Rattle.logtype_text.specs.Steps.{word_place}
use Rattle.logtype_text.proofs.PartsLemmas.{size, stand-append, constants, joined-constants, symbols-constants, constants_stand}

-- bytes without escapes are their own text
pub plain_text : (bytes : List ℕ) → All (λ b. is_escaped b ≡ false) bytes → type_text (map Byte bytes) ≡ bytes
plain_text [] plain = refl
plain_text (b ∷ bytes) plain =
    let here : text_of_symbol (Byte b) ≡ b ∷ [] = ap (λ e. cond e (0x5C ∷ b ∷ []) (b ∷ [])) (All-head (λ (x : ℕ). is_escaped x ≡ false) b bytes plain) in
    ap₂ (λ x y. x ++ y) here (plain_text bytes (All-tail (λ (x : ℕ). is_escaped x ≡ false) b bytes plain))

-- one byte more without an escape
pub plain_more : (bytes : List ℕ) (i : ℕ) (plain escaped : Bool) → i < length bytes → (plain ≡ true → All (λ b. is_escaped b ≡ false) (take i bytes)) → escaped ≡ is_escaped (get_or bytes i 0)
    → (plain && not escaped) ≡ true → All (λ b. is_escaped b ≡ false) (take (i + 1) bytes)
plain_more bytes i false escaped inside before is both = absurd (both_ways false refl both)
plain_more bytes i true true inside before is both = absurd (both_ways false refl both)
plain_more bytes i true false inside before is both = All-more (λ (b : ℕ). is_escaped b ≡ false) bytes i 0 inside (before refl) (sym is)

pub text-append : (xs ys : List Part) → type_text (map symbol_of (xs ++ ys)) ≡ type_text (map symbol_of xs) ++ type_text (map symbol_of ys)
text-append xs ys = ap type_text (map-append symbol_of xs ys) ∙ flat_map-append text_of_symbol (map symbol_of xs) (map symbol_of ys)

pub words-append : (xs ys : List Part) → word_texts (xs ++ ys) ≡ word_texts xs ++ word_texts ys
words-append [] ys = refl
words-append (Constant b ∷ xs) ys = words-append xs ys
words-append (Variable Whole text ∷ xs) ys = words-append xs ys
words-append (Variable Decimal text ∷ xs) ys = words-append xs ys
words-append (Variable Word text ∷ xs) ys = ap (λ l. text ∷ l) (words-append xs ys)

pub coded-append : (xs ys : List Part) (cs ds : List Coded) → AreCoded xs cs → AreCoded ys ds → AreCoded (xs ++ ys) (cs ++ ds)
coded-append [] ys [] ds front back = back
coded-append [] ys (c ∷ cs) ds front back = absurd front
coded-append (Constant b ∷ xs) ys cs ds front back = coded-append xs ys cs ds front back
coded-append (Variable kind text ∷ xs) ys [] ds front back = absurd front
coded-append (Variable kind text ∷ xs) ys (c ∷ cs) ds front back = (front.0, front.1, coded-append xs ys cs ds front.2 back)

coded-constants : (bytes : List ℕ) → AreCoded (constants bytes) []
coded-constants [] = tt
coded-constants (b ∷ bytes) = coded-constants bytes

words-constants : (bytes : List ℕ) → word_texts (constants bytes) ≡ []
words-constants [] = refl
words-constants (b ∷ bytes) = words-constants bytes

-- what is stored of the body up to a place
pub record SoFar (body : List ℕ) (at : ℕ) (text : List ℕ) (codes : List Coded) (words : List Span) : Type 0 where
  pub parts : List Part
  pub joins : joined parts ≡ take at body
  pub stand : StandAt body 0 parts
  pub typed : text ≡ type_text (map symbol_of parts)
  pub coded : AreCoded parts codes
  pub words_are : texts_at body words ≡ word_texts parts
  pub within : AreWithin body words

pub nothing_stored : (body : List ℕ) → SoFar body 0 [] [] []
nothing_stored body = record {
  parts = [];
  joins = refl;
  stand = tt;
  typed = refl;
  coded = tt;
  words_are = refl;
  within = All-nil (λ (s : Span). (s.start < s.end) × (s.end ≤ length body));
}

-- some parts more
stored_more : (body : List ℕ) (at to : ℕ) (text : List ℕ) (codes : List Coded) (words : List Span) (more : List Part) (codes' : List Coded) (words' : List Span)
    → at ≤ to → to ≤ length body → SoFar body at text codes words → joined more ≡ slice_range body at to → StandAt body at more
    → AreCoded more codes' → texts_at body (words ++ words') ≡ texts_at body words ++ word_texts more → AreWithin body (words ++ words')
    → SoFar body to (text ++ type_text (map symbol_of more)) (codes ++ codes') (words ++ words')
stored_more body at to text codes words more codes' words' ordered inside before joins stand coded words_are within =
    let counted : size before.parts ≡ at = ap length before.joins ∙ length-take-le at body (omega arith) in
    let size_is : 0 + size before.parts ≡ at = omega (arith, counted) in
    let reach : at + (to - at) ≡ to = omega arith in
    record {
      parts = before.parts ++ more;
      joins = flat_map-append text_of_part before.parts more ∙ ap₂ (λ xs ys. xs ++ ys) before.joins joins ∙ sym (take-add at (to - at) body) ∙ ap (λ n. take n body) reach;
      stand = stand-append body 0 before.parts more before.stand (subst (λ n. StandAt body n more) (sym size_is) stand);
      typed = ap (λ l. l ++ type_text (map symbol_of more)) before.typed ∙ sym (text-append before.parts more);
      coded = coded-append before.parts more codes codes' before.coded coded;
      words_are = words_are ∙ ap (λ l. l ++ word_texts more) before.words_are ∙ sym (words-append before.parts more);
      within = within;
    }

-- constant bytes more
pub constants_stored : (body : List ℕ) (at to : ℕ) (text text' : List ℕ) (codes : List Coded) (words : List Span) → at ≤ to → to ≤ length body → SoFar body at text codes words → IsFree body at to → text' ≡ text ++ type_text (map Byte (slice_range body at to)) → SoFar body to text' codes words
constants_stored body at to text text' codes words ordered inside before free is =
    let bytes = slice_range body at to in
    let reach : at + length bytes ≡ to = omega (arith, length-slice_range body at to inside) in
    let words_are : texts_at body (words ++ []) ≡ texts_at body words ++ word_texts (constants bytes) =
    ap (λ l. texts_at body l) (append-nil words) ∙ sym (append-nil (texts_at body words)) ∙ ap (λ l. texts_at body words ++ l) (sym (words-constants bytes)) in
    let within : AreWithin body (words ++ []) = subst (λ l. AreWithin body l) (sym (append-nil words)) before.within in
    let more = stored_more body at to text codes words (constants bytes) [] [] ordered inside before (joined-constants bytes) (constants_stand body at bytes (subst (λ n. IsFree body at n) (sym reach) free)) (coded-constants bytes) words_are within in
    let same : text ++ type_text (map symbol_of (constants bytes)) ≡ text' = ap (λ l. text ++ type_text l) (symbols-constants bytes) ∙ sym is in
    subst (λ l. SoFar body to l codes words) same
    (subst (λ l. SoFar body to (text ++ type_text (map symbol_of (constants bytes))) l words) (append-nil codes)
    (subst (λ l. SoFar body to (text ++ type_text (map symbol_of (constants bytes))) (codes ++ []) l) (append-nil words) more))

-- the words that a variable adds
new_words : (body : List ℕ) (words : List Span) (coded : Coded) (span : Span) → texts_at body (words ++ word_place coded span) ≡ texts_at body words ++ word_texts (Variable (kind_of coded) (slice_range body span.start span.end) ∷ [])
new_words body words (WholeWord n) span = map-append (λ (s : Span). slice_range body s.start s.end) words []
new_words body words (DecimalWord word) span = map-append (λ (s : Span). slice_range body s.start s.end) words []
new_words body words DictionaryWord span = map-append (λ (s : Span). slice_range body s.start s.end) words (span ∷ [])

new_within : (body : List ℕ) (words : List Span) (coded : Coded) (span : Span) → span.start < span.end → span.end ≤ length body → AreWithin body words → AreWithin body (words ++ word_place coded span)
new_within body words (WholeWord n) span some inside before = subst (λ l. AreWithin body l) (sym (append-nil words)) before
new_within body words (DecimalWord word) span some inside before = subst (λ l. AreWithin body l) (sym (append-nil words)) before
new_within body words DictionaryWord span some inside before = All-push (λ (s : Span). (s.start < s.end) × (s.end ≤ length body)) words span before (some, inside)

-- a variable more
pub variable_stored : (body : List ℕ) (span : Span) (text text' : List ℕ) (codes codes' : List Coded) (words words' : List Span) (coded : Coded)
    → SoFar body span.start text codes words → IsVariableToken body span.start span.end → Codes (slice_range body span.start span.end) coded
    → text' ≡ text ++ placeholder (kind_of coded) ∷ [] → codes' ≡ codes ++ coded ∷ [] → words' ≡ words ++ word_place coded span
    → SoFar body span.end text' codes' words'
variable_stored body span text text' codes codes' words words' coded before token codes_are text_is codes_is words_is =
    let start = span.start in
    let end = span.end in
    let bytes = slice_range body start end in
    let kind = kind_of coded in
    let inside = token.token.in_range in
    let not_empty = token.token.not_empty in
    let reach : start + length bytes ≡ end = omega (arith, length-slice_range body start end inside) in
    let has_kind : HasKind bytes kind = (coded, codes_are, refl) in
    let more = stored_more body start end text codes words (Variable kind bytes ∷ []) (coded ∷ []) (word_place coded span) (omega arith) inside before (append-nil bytes)
    (subst (λ n. IsVariableToken body start n) (sym reach) token, has_kind, tt) (codes_are, refl, tt) (new_words body words coded span) (new_within body words coded span not_empty inside before.within) in
    subst (λ l. SoFar body end l codes' words') (sym text_is)
    (subst (λ l. SoFar body end (text ++ placeholder kind ∷ []) l words') (sym codes_is)
    (subst (λ l. SoFar body end (text ++ placeholder kind ∷ []) (codes ++ coded ∷ []) l) (sym words_is) more))

-- at the end of the body
pub stored_whole : (body : List ℕ) (at : ℕ) (text : List ℕ) (codes : List Coded) (words : List Span) → length body ≤ at → SoFar body at text codes words → IsEncoded body text codes words
stored_whole body at text codes words reached before = record {
  parts = before.parts;
  are = record { joins = before.joins ∙ take_all at body reached; stand = before.stand };
  typed = before.typed;
  coded = before.coded;
  words_are = before.words_are;
  within = before.within;
}
