-- Parts that are cut by the rule of tokens, by the text of their log type.
use Rattle.std.proofs.Common.{◌≡◌, ℕ, ◌-◌, ◌<◌, ◌⊎◌, zero, suc, Bool, true, false, cond, List, [], ◌∷◌, ◌++◌, length, take, map, refl, sym, ◌∙◌, ap, ap₂, subst, arith, inl, inr, append_assoc, length-append}
use Rattle.std.specs.Prelude.{◌≢◌, ◌↔◌, ◌||◌, ◌&&◌, nat_le, Option, None, Some, slice_index}
use Rattle.std.specs.List.{list_all, list_any}
use Rattle.std.proofs.lemmas.List.{append-nil, take_at}
use Rattle.std.proofs.lemmas.Bool.{cases_Bool, both_ways}
use Rattle.std.proofs.lemmas.Bool.Decides.{nat_tests}
use Rattle.token_rules.specs.Tokens.{IsDelimiter, IsVariable, is_digit, is_letter, is_hexadecimal, is_token_byte, is_variable, is_equals_sign}
use Rattle.token_rules.proofs.TokenLemmas.{no_delimiter}
use Rattle.logtype_text.specs.declared.symbols.Kind.{Kind}
use Rattle.logtype_text.specs.declared.symbols.Symbol.{Symbol}
use Rattle.logtype_text.specs.declared.symbols.Symbol.TheVariants.{Byte, Slot}
use Rattle.logtype_text.specs.Parts.{Part, Constant, Variable, HasKind, symbol_of}
use Rattle.logtype_text.specs.Cut.{IsTokenText, Breaks, plains, Cut, ended, delimiter, plain, held}
use Rattle.logtype_text.specs.TypeText.{is_escaped, text_of_symbol, type_text}
use Rattle.logtype_text.proofs.TextLemmas.{first_same, some_byte, symbol_longer}
use Rattle.row_codec.specs.Means.{EachWord, IsWritten}
use Rattle.row_codec.specs.StepsCut.{AreTokenBytes, IsCutText, IsHeldToken, IsHeldWord, IsTokenByte, Stops, StopsText, TellsBreaks}
use Rattle.row_codec.proofs.MeansLemmas.{one_writing}

-- what stands first among parts that are cut
record IsPlainFront (prev : Option ℕ) (b : ℕ) (parts : List Part) : Type 0 where
  bytes : List ℕ
  rest : List Part
  same : parts ≡ plains bytes rest
  text : IsTokenText (b ∷ bytes)
  breaks : Breaks rest
  constant : ¬ IsVariable prev (b ∷ bytes)
  cut : Cut None rest

record IsHeldFront (prev : Option ℕ) (kind : Kind) (token : List ℕ) (parts : List Part) : Type 0 where
  text : IsTokenText token
  breaks : Breaks parts
  variable : IsVariable prev token
  has_kind : HasKind token kind
  cut : Cut None parts

abbrev CutFront : Option ℕ → List Part → Type 0
CutFront prev [] = Unit {0}
CutFront prev (Constant b ∷ parts) = (IsDelimiter b × Cut (Some b) parts) ⊎ IsPlainFront prev b parts
CutFront prev (Variable kind token ∷ parts) = IsHeldFront prev kind token parts

cut_front : {prev : Option ℕ} {parts : List Part} → Cut prev parts → CutFront prev parts
cut_front ended = tt
cut_front (delimiter {prev} {parts} b is rest) = inl (is, rest)
cut_front (plain {prev} {parts} [] text breaks constant rest) = let some = text.some in absurd (omega arith)
cut_front (plain {prev} {parts} (b ∷ bytes) text breaks constant rest) = inr (record { bytes = bytes; rest = parts; same = refl; text = text; breaks = breaks; constant = constant; cut = rest })
cut_front (held {prev} {parts} kind token text breaks variable has_kind rest) = record { text = text; breaks = breaks; variable = variable; has_kind = has_kind; cut = rest }

-- parts by the first symbol of their text
record StartsByte (b : ℕ) (after : List ℕ) (parts : List Part) : Type 0 where
  rest : List Part
  same : parts ≡ Constant b ∷ rest
  typed : after ≡ type_text (map symbol_of rest)

starts_byte : (b : ℕ) (after : List ℕ) (parts : List Part) → text_of_symbol (Byte b) ++ after ≡ type_text (map symbol_of parts) → StartsByte b after parts
starts_byte b after [] typed = absurd (some_byte (Byte b) after typed)
starts_byte b after (Constant c ∷ parts) typed =
    let both = first_same (Byte b) (Byte c) after (type_text (map symbol_of parts)) typed in
    let heads : Byte b ≡ Byte c = both.0 in
    let bytes : c ≡ b = cc in
    record { rest = parts; same = ap (λ x. Constant x ∷ parts) bytes; typed = both.1 }
starts_byte b after (Variable kind text ∷ parts) typed =
    let both = first_same (Byte b) (Slot kind) after (type_text (map symbol_of parts)) typed in
    absurd (let heads : Byte b ≡ Slot kind = both.0 in cc)

record StartsSlot (kind : Kind) (after : List ℕ) (parts : List Part) : Type 0 where
  text : List ℕ
  rest : List Part
  same : parts ≡ Variable kind text ∷ rest
  typed : after ≡ type_text (map symbol_of rest)

starts_slot : (kind : Kind) (after : List ℕ) (parts : List Part) → text_of_symbol (Slot kind) ++ after ≡ type_text (map symbol_of parts) → StartsSlot kind after parts
starts_slot kind after [] typed = absurd (some_byte (Slot kind) after typed)
starts_slot kind after (Constant c ∷ parts) typed =
    let both = first_same (Slot kind) (Byte c) after (type_text (map symbol_of parts)) typed in
    absurd (let heads : Slot kind ≡ Byte c = both.0 in cc)
starts_slot kind after (Variable other text ∷ parts) typed =
    let both = first_same (Slot kind) (Slot other) after (type_text (map symbol_of parts)) typed in
    let heads : Slot kind ≡ Slot other = both.0 in
    let kinds : other ≡ kind = cc in
    record { text = text; rest = parts; same = ap (λ k. Variable k text ∷ parts) kinds; typed = both.1 }

-- a delimiter
no_plain_delimiter : (prev : Option ℕ) (b : ℕ) (parts : List Part) → IsDelimiter b → ¬ IsPlainFront prev b parts
no_plain_delimiter prev b parts is front = front.text.unbroken 0 (omega arith) is

pub cut_delimiter : (words : List (List ℕ)) (prev : Option ℕ) (text row : List ℕ) (b : ℕ) (after : List ℕ) → text ≡ text_of_symbol (Byte b) ++ after → IsDelimiter b → IsCutText words prev text row ↔ IsCutText words (Some b) after row
cut_delimiter words prev text row b after cut is = (
  λ whole.
      let starts = starts_byte b after whole.parts (sym cut ∙ whole.typed) in
      let front : CutFront prev (Constant b ∷ starts.rest) = cut_front (subst (λ l. Cut prev l) starts.same whole.cut) in
      record {
        parts = starts.rest;
        typed = starts.typed;
        written = subst (λ l. EachWord (IsWritten words) l row) starts.same whole.written;
        cut = elim front [ inl both ↦ both.1 | inr other ↦ absurd (no_plain_delimiter prev b starts.rest is other) ];
      },
  λ rest. record {
    parts = Constant b ∷ rest.parts;
    typed = cut ∙ ap (λ l. text_of_symbol (Byte b) ++ l) rest.typed;
    written = rest.written;
    cut = delimiter b is rest.cut;
  },
)

-- whether a token ends before parts is told by their symbols
breaks_same : (a b : List Part) → map symbol_of a ≡ map symbol_of b → Breaks a → Breaks b
breaks_same [] [] same breaks = tt
breaks_same [] (p ∷ b) same breaks = absurd (cc)
breaks_same (p ∷ a) [] same breaks = tt
breaks_same (Constant x ∷ a) (Constant y ∷ b) same breaks = let heads : Byte x ≡ Byte y = cc in let bytes : x ≡ y = cc in subst IsDelimiter bytes breaks
breaks_same (Constant x ∷ a) (Variable kind text ∷ b) same breaks = absurd (let heads : Byte x ≡ Slot kind = cc in cc)
breaks_same (Variable kind text ∷ a) (p ∷ b) same breaks = absurd breaks

-- a variable
pub cut_variable : (words : List (List ℕ)) (prev : Option ℕ) (text row : List ℕ) (kind : Kind) (after : List ℕ) (word : ℕ) (left : List ℕ) → text ≡ text_of_symbol (Slot kind) ++ after → row ≡ word ∷ left
    → TellsBreaks after true → IsHeldWord words prev kind word → IsCutText words prev text row ↔ IsCutText words None after left
cut_variable words prev text row kind after word left cut row_is breaks held_word = (
  λ whole.
      let starts = starts_slot kind after whole.parts (sym cut ∙ whole.typed) in
      let front : CutFront prev (Variable kind starts.text ∷ starts.rest) = cut_front (subst (λ l. Cut prev l) starts.same whole.cut) in
      let written : EachWord (IsWritten words) (Variable kind starts.text ∷ starts.rest) (word ∷ left) = subst (λ l. EachWord (IsWritten words) l (word ∷ left)) starts.same (subst (λ l. EachWord (IsWritten words) whole.parts l) row_is whole.written) in
      record { parts = starts.rest; typed = starts.typed; written = written.1; cut = front.cut },
  λ rest. record {
    parts = Variable kind held_word.token ∷ rest.parts;
    typed = cut ∙ ap (λ l. text_of_symbol (Slot kind) ++ l) rest.typed;
    written = subst (λ l. EachWord (IsWritten words) (Variable kind held_word.token ∷ rest.parts) l) (sym row_is) (held_word.written, rest.written);
    cut = held kind held_word.token held_word.text ((breaks rest.parts rest.typed).0 refl) held_word.variable held_word.has_kind rest.cut;
  },
)

pub variable_breaks : (words : List (List ℕ)) (prev : Option ℕ) (text row : List ℕ) (kind : Kind) (after : List ℕ) → text ≡ text_of_symbol (Slot kind) ++ after → TellsBreaks after false → ¬ IsCutText words prev text row
variable_breaks words prev text row kind after cut breaks whole =
    let starts = starts_slot kind after whole.parts (sym cut ∙ whole.typed) in
    let front : CutFront prev (Variable kind starts.text ∷ starts.rest) = cut_front (subst (λ l. Cut prev l) starts.same whole.cut) in
    let yes : false ≡ true = (breaks starts.rest starts.typed).1 front.breaks in cc

pub variable_held : (words : List (List ℕ)) (prev : Option ℕ) (text row : List ℕ) (kind : Kind) (after : List ℕ) (word : ℕ) (left : List ℕ) → text ≡ text_of_symbol (Slot kind) ++ after → row ≡ word ∷ left → IsCutText words prev text row → IsHeldWord words prev kind word
variable_held words prev text row kind after word left cut row_is whole =
    let starts = starts_slot kind after whole.parts (sym cut ∙ whole.typed) in
    let front : CutFront prev (Variable kind starts.text ∷ starts.rest) = cut_front (subst (λ l. Cut prev l) starts.same whole.cut) in
    let written : EachWord (IsWritten words) (Variable kind starts.text ∷ starts.rest) (word ∷ left) = subst (λ l. EachWord (IsWritten words) l (word ∷ left)) starts.same (subst (λ l. EachWord (IsWritten words) whole.parts l) row_is whole.written) in
    record { token = starts.text; written = written.0; text = front.text; variable = front.variable; has_kind = front.has_kind }

pub variable_word : (words : List (List ℕ)) (prev : Option ℕ) (text : List ℕ) (kind : Kind) (after : List ℕ) → text ≡ text_of_symbol (Slot kind) ++ after → ¬ IsCutText words prev text []
variable_word words prev text kind after cut whole =
    let starts = starts_slot kind after whole.parts (sym cut ∙ whole.typed) in
    let written : EachWord (IsWritten words) (Variable kind starts.text ∷ starts.rest) [] = subst (λ l. EachWord (IsWritten words) l []) starts.same whole.written in
    written

-- a token of constants
Unbroken : List ℕ → Type 0
Unbroken bytes = (k : ℕ) → k < length bytes → ¬ IsDelimiter (slice_index bytes k)

unbroken_tail : (b : ℕ) (bytes : List ℕ) → Unbroken (b ∷ bytes) → Unbroken bytes
unfolding Unbroken
unbroken_tail b bytes all k low = all (suc k) (omega arith)

unbroken_first : (b : ℕ) (bytes : List ℕ) → Unbroken (b ∷ bytes) → ¬ IsDelimiter b
unfolding Unbroken
unbroken_first b bytes all = all 0 (omega arith)

unbroken_cons : (b : ℕ) (bytes : List ℕ) → ¬ IsDelimiter b → Unbroken bytes → Unbroken (b ∷ bytes)
unfolding Unbroken
unbroken_cons b bytes here rest zero low = here
unbroken_cons b bytes here rest (suc k) low = rest k (omega arith)

record StartsPlain (bytes after : List ℕ) (parts : List Part) : Type 0 where
  rest : List Part
  same : parts ≡ plains bytes rest
  typed : after ≡ type_text (map symbol_of rest)

starts_plain : (bytes after : List ℕ) (parts : List Part) → type_text (map Byte bytes) ++ after ≡ type_text (map symbol_of parts) → StartsPlain bytes after parts
starts_plain [] after parts typed = record { rest = parts; same = refl; typed = typed }
starts_plain (b ∷ bytes) after parts typed =
    let first = starts_byte b (type_text (map Byte bytes) ++ after) parts (sym (append_assoc (text_of_symbol (Byte b)) (type_text (map Byte bytes)) after) ∙ typed) in
    let more = starts_plain bytes after first.rest first.typed in
    record { rest = more.rest; same = first.same ∙ ap (λ l. Constant b ∷ l) more.same; typed = more.typed }

plain_typed : (bytes after : List ℕ) (parts : List Part) → after ≡ type_text (map symbol_of parts) → type_text (map Byte bytes) ++ after ≡ type_text (map symbol_of (plains bytes parts))
plain_typed [] after parts typed = typed
plain_typed (b ∷ bytes) after parts typed = append_assoc (text_of_symbol (Byte b)) (type_text (map Byte bytes)) after ∙ ap (λ l. text_of_symbol (Byte b) ++ l) (plain_typed bytes after parts typed)

plain_written : (words : List (List ℕ)) (bytes : List ℕ) (parts : List Part) (row : List ℕ) → EachWord (IsWritten words) parts row → EachWord (IsWritten words) (plains bytes parts) row
plain_written words [] parts row written = written
plain_written words (b ∷ bytes) parts row written = plain_written words bytes parts row written

written_plain : (words : List (List ℕ)) (bytes : List ℕ) (parts : List Part) (row : List ℕ) → EachWord (IsWritten words) (plains bytes parts) row → EachWord (IsWritten words) parts row
written_plain words [] parts row written = written
written_plain words (b ∷ bytes) parts row written = written_plain words bytes parts row written

-- a token at the front ends at one place
record SameRun (token other : List ℕ) (parts more : List Part) : Type 0 where
  bytes : token ≡ other
  rest : parts ≡ more

same_run : (token other : List ℕ) (parts more : List Part) → Unbroken token → Unbroken other → Stops parts → Breaks more → plains token parts ≡ plains other more → SameRun token other parts more
same_run [] [] parts more mine theirs stops breaks same = record { bytes = refl; rest = same }
same_run [] (c ∷ other) parts more mine theirs stops breaks same =
    let here : Stops (Constant c ∷ plains other more) = subst Stops same stops in
    absurd (unbroken_first c other theirs here)
same_run (b ∷ token) [] parts more mine theirs stops breaks same =
    let here : Breaks (Constant b ∷ plains token parts) = subst Breaks (sym same) breaks in
    absurd (unbroken_first b token mine here)
same_run (b ∷ token) (c ∷ other) parts more mine theirs stops breaks same =
    let heads : Constant b ≡ Constant c = cc in
    let bytes : b ≡ c = cc in
    let rest = same_run token other parts more (unbroken_tail b token mine) (unbroken_tail c other theirs) stops breaks (cc) in
    record { bytes = ap₂ (λ x l. x ∷ l) bytes rest.bytes; rest = rest.rest }

-- a token of constants, behind which what is left is cut, or not
record IsPlainToken (prev : Option ℕ) (token : List ℕ) (parts : List Part) : Type 0 where
  breaks : Breaks parts
  constant : ¬ IsVariable prev token
  cut : Cut None parts

plain_token : (prev : Option ℕ) (b : ℕ) (bytes : List ℕ) (parts : List Part) → Unbroken (b ∷ bytes) → Stops parts → Cut prev (plains (b ∷ bytes) parts) → IsPlainToken prev (b ∷ bytes) parts
unfolding Unbroken
plain_token prev b bytes parts unbroken stops cut =
    let front : CutFront prev (Constant b ∷ plains bytes parts) = cut_front cut in
    elim front [
      | inl both ↦ absurd (unbroken_first b bytes unbroken both.0)
      | inr is ↦
          let run = same_run bytes is.bytes parts is.rest (unbroken_tail b bytes unbroken) (unbroken_tail b is.bytes is.text.unbroken) stops is.breaks is.same in
          record {
            breaks = subst Breaks (sym run.rest) is.breaks;
            constant = λ variable. is.constant (subst (λ l. IsVariable prev (b ∷ l)) run.bytes variable);
            cut = subst (λ l. Cut None l) (sym run.rest) is.cut;
          }
    ]

token_text : (b : ℕ) (bytes : List ℕ) → Unbroken (b ∷ bytes) → IsTokenText (b ∷ bytes)
unfolding Unbroken
token_text b bytes unbroken = record { some = omega arith; unbroken = unbroken }

stops_parts : (text : List ℕ) → StopsText text → (parts : List Part) → text ≡ type_text (map symbol_of parts) → Stops parts
stops_parts text stops [] typed = tt
stops_parts text stops (Variable kind name ∷ parts) typed = tt
stops_parts text stops (Constant b ∷ parts) typed = elim (cases_Bool (is_token_byte b)) [
  | inl of_token ↦ absurd (stops (type_text (map symbol_of parts)) (record { byte = b; of_token = no_delimiter b of_token; cut = typed }))
  | inr is ↦ is
]

record PlainWhole (words : List (List ℕ)) (prev : Option ℕ) (bytes after row : List ℕ) : Type 0 where
  parts : List Part
  typed : after ≡ type_text (map symbol_of parts)
  written : EachWord (IsWritten words) parts row
  is : IsPlainToken prev bytes parts

plain_whole : (words : List (List ℕ)) (prev : Option ℕ) (text row : List ℕ) (b : ℕ) (bytes after : List ℕ) → text ≡ type_text (map Byte (b ∷ bytes)) ++ after → Unbroken (b ∷ bytes) → StopsText after → IsCutText words prev text row → PlainWhole words prev (b ∷ bytes) after row
plain_whole words prev text row b bytes after cut unbroken stops whole =
    let starts = starts_plain (b ∷ bytes) after whole.parts (sym cut ∙ whole.typed) in
    record {
      parts = starts.rest;
      typed = starts.typed;
      written = written_plain words (b ∷ bytes) starts.rest row (subst (λ l. EachWord (IsWritten words) l row) starts.same whole.written);
      is = plain_token prev b bytes starts.rest unbroken (stops_parts after stops starts.rest starts.typed) (subst (λ l. Cut prev l) starts.same whole.cut);
    }

pub cut_constants : (words : List (List ℕ)) (prev : Option ℕ) (text row : List ℕ) (bytes after : List ℕ) → 0 < length bytes → text ≡ type_text (map Byte bytes) ++ after → ((k : ℕ) → k < length bytes → ¬ IsDelimiter (slice_index bytes k)) → StopsText after
    → TellsBreaks after true → ¬ IsVariable prev bytes → IsCutText words prev text row ↔ IsCutText words None after row
unfolding Unbroken
cut_constants words prev text row [] after some cut unbroken stops breaks constant = absurd (omega arith)
cut_constants words prev text row (b ∷ bytes) after some cut unbroken stops breaks constant = (
  λ whole.
      let apart = plain_whole words prev text row b bytes after cut unbroken stops whole in
      record { parts = apart.parts; typed = apart.typed; written = apart.written; cut = apart.is.cut },
  λ rest. record {
    parts = plains (b ∷ bytes) rest.parts;
    typed = cut ∙ plain_typed (b ∷ bytes) after rest.parts rest.typed;
    written = plain_written words (b ∷ bytes) rest.parts row rest.written;
    cut = plain (b ∷ bytes) (token_text b bytes unbroken) ((breaks rest.parts rest.typed).0 refl) constant rest.cut;
  },
)

pub constants_break : (words : List (List ℕ)) (prev : Option ℕ) (text row : List ℕ) (bytes after : List ℕ) → 0 < length bytes → text ≡ type_text (map Byte bytes) ++ after → ((k : ℕ) → k < length bytes → ¬ IsDelimiter (slice_index bytes k)) → StopsText after
    → TellsBreaks after false → ¬ IsCutText words prev text row
unfolding Unbroken
constants_break words prev text row [] after some cut unbroken stops breaks whole = absurd (omega arith)
constants_break words prev text row (b ∷ bytes) after some cut unbroken stops breaks whole =
    let apart = plain_whole words prev text row b bytes after cut unbroken stops whole in
    let yes : false ≡ true = (breaks apart.parts apart.typed).1 apart.is.breaks in cc

pub constants_vary : (words : List (List ℕ)) (prev : Option ℕ) (text row : List ℕ) (bytes after : List ℕ) → 0 < length bytes → text ≡ type_text (map Byte bytes) ++ after → ((k : ℕ) → k < length bytes → ¬ IsDelimiter (slice_index bytes k)) → StopsText after
    → IsVariable prev bytes → ¬ IsCutText words prev text row
unfolding Unbroken
constants_vary words prev text row [] after some cut unbroken stops variable whole = absurd (omega arith)
constants_vary words prev text row (b ∷ bytes) after some cut unbroken stops variable whole =
    (plain_whole words prev text row b bytes after cut unbroken stops whole).is.constant variable

all_first : (x y : Bool) → (x && y) ≡ true → x ≡ true
all_first true y both = refl
all_first false y both = both

all_rest : (x y : Bool) → (x && y) ≡ true → y ≡ true
all_rest true y both = both
all_rest false y both = absurd (let apart : false ≡ true = both in cc)

and_false : (x : Bool) → (x && false) ≡ false
and_false true = refl
and_false false = refl

-- a constant byte of a token that needs a `\` is a `\`
escaped_token : (b : ℕ) → ¬ IsDelimiter b → is_escaped b ≡ true → b ≡ 0x5C
unfolding is_token_byte
escaped_token b of_token escaped = grind (arith, nat_tests)

-- so it is one where it is written too
abbrev raw : List ℕ → List ℕ
raw bytes = type_text (map Byte bytes)

data RawFirst (b : ℕ) : Type 0 where
  as_is : text_of_symbol (Byte b) ≡ b ∷ [] → RawFirst b
  twice : b ≡ 0x5C → text_of_symbol (Byte b) ≡ 0x5C ∷ 0x5C ∷ [] → RawFirst b

raw_first : (b : ℕ) → ¬ IsDelimiter b → RawFirst b
raw_first b of_token = elim (cases_Bool (is_escaped b)) [
  | inl escaped ↦
      let same = escaped_token b of_token escaped in
      twice same (ap (λ t. cond t (0x5C ∷ b ∷ []) (b ∷ [])) escaped ∙ ap (λ (x : ℕ). 0x5C ∷ x ∷ []) same)
  | inr not ↦ as_is (ap (λ t. cond t (0x5C ∷ b ∷ []) (b ∷ [])) not)
]

any_raw : (p : ℕ → Bool) → p 0x5C ≡ false → (bytes : List ℕ) → Unbroken bytes → list_any p (raw bytes) ≡ list_any p bytes
any_raw p not [] unbroken = refl
any_raw p not (b ∷ bytes) unbroken =
    let more = any_raw p not bytes (unbroken_tail b bytes unbroken) in
    elim (raw_first b (unbroken_first b bytes unbroken)) [
      | as_is text ↦ ap (λ l. list_any p (l ++ raw bytes)) text ∙ ap (λ x. p b || x) more
      | twice same text ↦
          ap (λ l. list_any p (l ++ raw bytes)) text ∙ ap (λ x. x || (x || list_any p (raw bytes))) not ∙ more ∙ ap (λ x. x || list_any p bytes) (sym (ap p same ∙ not))
    ]

all_raw : (p : ℕ → Bool) → p 0x5C ≡ false → (bytes : List ℕ) → Unbroken bytes → list_all p (raw bytes) ≡ list_all p bytes
all_raw p not [] unbroken = refl
all_raw p not (b ∷ bytes) unbroken =
    let more = all_raw p not bytes (unbroken_tail b bytes unbroken) in
    elim (raw_first b (unbroken_first b bytes unbroken)) [
      | as_is text ↦ ap (λ l. list_all p (l ++ raw bytes)) text ∙ ap (λ x. p b && x) more
      | twice same text ↦
          ap (λ l. list_all p (l ++ raw bytes)) text ∙ ap (λ x. x && (x && list_all p (raw bytes))) not ∙ ap (λ x. x && list_all p bytes) (sym (ap p same ∙ not))
    ]

all_same : (p : ℕ → Bool) → p 0x5C ≡ false → (bytes : List ℕ) → Unbroken bytes → list_all p bytes ≡ true → raw bytes ≡ bytes
all_same p not [] unbroken all = refl
all_same p not (b ∷ bytes) unbroken all = elim (raw_first b (unbroken_first b bytes unbroken)) [
  | as_is text ↦
      let rest : list_all p bytes ≡ true = all_rest (p b) (list_all p bytes) all in
      ap (λ l. l ++ raw bytes) text ∙ ap (λ l. b ∷ l) (all_same p not bytes (unbroken_tail b bytes unbroken) rest)
  | twice same text ↦
      let here : p b ≡ true = all_first (p b) (list_all p bytes) all in
      let there : p b ≡ false = ap p same ∙ not in
      absurd (both_ways (p b) there here)
]

hexadecimal_raw : (bytes : List ℕ) → Unbroken bytes → (nat_le 2 (length (raw bytes)) && list_all is_hexadecimal (raw bytes)) ≡ (nat_le 2 (length bytes) && list_all is_hexadecimal bytes)
hexadecimal_raw bytes unbroken =
    let alls = all_raw is_hexadecimal refl bytes unbroken in
    elim (cases_Bool (list_all is_hexadecimal bytes)) [
      | inl all ↦ ap (λ l. nat_le 2 (length l) && list_all is_hexadecimal l) (all_same is_hexadecimal refl bytes unbroken all)
      | inr not ↦ ap (λ x. nat_le 2 (length (raw bytes)) && x) (alls ∙ not) ∙ and_false (nat_le 2 (length (raw bytes))) ∙ sym (ap (λ x. nat_le 2 (length bytes) && x) not ∙ and_false (nat_le 2 (length bytes)))
    ]

-- a token of constants is a variable where its text is one
pub variable_raw : (prev : Option ℕ) (bytes : List ℕ) → ((k : ℕ) → k < length bytes → ¬ IsDelimiter (slice_index bytes k)) → is_variable prev (type_text (map Byte bytes)) ≡ is_variable prev bytes
unfolding is_variable Unbroken
variable_raw prev bytes unbroken =
    let digits = any_raw is_digit refl bytes unbroken in
    let letters = any_raw is_letter refl bytes unbroken in
    let hex = hexadecimal_raw bytes unbroken in
    ap (λ x. x || (is_equals_sign prev && list_any is_letter (raw bytes)) || (nat_le 2 (length (raw bytes)) && list_all is_hexadecimal (raw bytes))) digits
    ∙ ap (λ x. list_any is_digit bytes || (is_equals_sign prev && x) || (nat_le 2 (length (raw bytes)) && list_all is_hexadecimal (raw bytes))) letters
    ∙ ap (λ x. list_any is_digit bytes || (is_equals_sign prev && list_any is_letter bytes) || x) hex

backslash : ¬ IsDelimiter 0x5C
unfolding is_token_byte
backslash is = cc

raw_unbroken : (bytes : List ℕ) → Unbroken bytes → Unbroken (raw bytes)
raw_unbroken [] unbroken = unbroken
raw_unbroken (b ∷ bytes) unbroken =
    let more = raw_unbroken bytes (unbroken_tail b bytes unbroken) in
    let here = unbroken_first b bytes unbroken in
    elim (raw_first b here) [
      | as_is text ↦ subst (λ l. Unbroken (l ++ raw bytes)) (sym text) (unbroken_cons b (raw bytes) here more)
      | twice same text ↦ subst (λ l. Unbroken (l ++ raw bytes)) (sym text) (unbroken_cons 0x5C (0x5C ∷ raw bytes) backslash (unbroken_cons 0x5C (raw bytes) backslash more))
    ]

pub raw_token : (bytes : List ℕ) → ((k : ℕ) → k < length bytes → ¬ IsDelimiter (slice_index bytes k)) → (k : ℕ) → k < length (type_text (map Byte bytes)) → ¬ IsDelimiter (slice_index (type_text (map Byte bytes)) k)
unfolding Unbroken
raw_token bytes unbroken = raw_unbroken bytes unbroken

-- constant bytes of a token, one by one
more_bytes : (bytes rest : List ℕ) (b : ℕ) (after : List ℕ) → Unbroken bytes → ¬ IsDelimiter b → rest ≡ text_of_symbol (Byte b) ++ after → (all : List ℕ) × Unbroken all × (raw bytes ++ rest ≡ raw all ++ after)
unfolding Unbroken
more_bytes [] rest b after unbroken of_token cut = (b ∷ [], unbroken_cons b [] of_token (λ k low. absurd (omega arith)), cut ∙ ap (λ l. l ++ after) (sym (append-nil (text_of_symbol (Byte b)))))
more_bytes (c ∷ bytes) rest b after unbroken of_token cut =
    let more = more_bytes bytes rest b after (unbroken_tail c bytes unbroken) of_token cut in (
      c ∷ more.0,
      unbroken_cons c more.0 (unbroken_first c bytes unbroken) more.1,
      append_assoc (text_of_symbol (Byte c)) (raw bytes) rest ∙ ap (λ l. text_of_symbol (Byte c) ++ l) more.2 ∙ sym (append_assoc (text_of_symbol (Byte c)) (raw more.0) after),
    )

pub token_bytes_more : (text rest after : List ℕ) → AreTokenBytes text rest → IsTokenByte rest after → AreTokenBytes text after
unfolding Unbroken
token_bytes_more text rest after are is =
    let more = more_bytes are.bytes rest is.byte after are.unbroken is.of_token is.cut in
    record { bytes = more.0; unbroken = more.1; cut = are.cut ∙ more.2 }

pub token_byte_shorter : (text after : List ℕ) → IsTokenByte text after → length after < length text
token_byte_shorter text after is = let longer = symbol_longer (Byte is.byte) after in omega (arith, ap length is.cut)

some_bytes : (text first after : List ℕ) → IsTokenByte text first → (bytes : List ℕ) → text ≡ raw bytes ++ after → StopsText after → 0 < length bytes
some_bytes text first after is [] cut stops = absurd (stops first (record { byte = is.byte; of_token = is.of_token; cut = sym cut ∙ is.cut }))
some_bytes text first after is (b ∷ bytes) cut stops = omega arith

pub token_some : (text first after : List ℕ) → IsTokenByte text first → (are : AreTokenBytes text after) → StopsText after → 0 < length are.bytes
token_some text first after is are stops = some_bytes text first after is are.bytes are.cut stops

pub token_slice : (text after bytes : List ℕ) → text ≡ type_text (map Byte bytes) ++ after → take (length text - length after) text ≡ type_text (map Byte bytes)
token_slice text after bytes cut =
    let long : length (raw bytes) ≡ length text - length after = omega (arith, ap length cut, length-append (raw bytes) after) in
    ap (λ l. take (length text - length after) l) cut ∙ take_at (raw bytes) after (length text - length after) long

raw_some : (bytes : List ℕ) → 0 < length bytes → 0 < length (raw bytes)
raw_some [] some = some
raw_some (b ∷ bytes) some = let longer = symbol_longer (Byte b) (raw bytes) in omega arith

-- what the code asks of a token as it stands in the text
pub record TokenFacts (prev : Option ℕ) (text after bytes : List ℕ) : Type 0 where
  pub some : 0 < length (take (length text - length after) text)
  pub unbroken : (k : ℕ) → k < length (take (length text - length after) text) → ¬ IsDelimiter (slice_index (take (length text - length after) text) k)
  pub variable : IsVariable prev (take (length text - length after) text) ↔ IsVariable prev bytes
  pub shorter : length after < length text

pub token_facts : (prev : Option ℕ) (text after bytes : List ℕ) → 0 < length bytes → text ≡ type_text (map Byte bytes) ++ after → ((k : ℕ) → k < length bytes → ¬ IsDelimiter (slice_index bytes k)) → TokenFacts prev text after bytes
token_facts prev text after bytes some cut unbroken =
    let slice = token_slice text after bytes cut in
    let same = variable_raw prev bytes unbroken in
    let long = raw_some bytes some in
    record {
      some = subst (λ l. 0 < length l) (sym slice) long;
      unbroken = subst (λ l. (k : ℕ) → k < length l → ¬ IsDelimiter (slice_index l k)) (sym slice) (raw_token bytes unbroken);
      variable = subst (λ l. IsVariable prev l ↔ IsVariable prev bytes) (sym slice) (λ yes. sym same ∙ yes, λ yes. same ∙ yes);
      shorter = omega (arith, ap length cut, length-append (raw bytes) after);
    }

-- a byte that is no constant of a token is first
pub stops_delimiter : (text : List ℕ) (b : ℕ) (after : List ℕ) → text ≡ text_of_symbol (Byte b) ++ after → IsDelimiter b → StopsText text
stops_delimiter text b after cut is rest first =
    let both = first_same (Byte b) (Byte first.byte) after rest (sym cut ∙ first.cut) in
    let heads : Byte b ≡ Byte first.byte = both.0 in
    let bytes : b ≡ first.byte = cc in
    first.of_token (subst IsDelimiter bytes is)

pub stops_slot : (text : List ℕ) (kind : Kind) (after : List ℕ) → text ≡ text_of_symbol (Slot kind) ++ after → StopsText text
stops_slot text kind after cut rest first =
    let both = first_same (Slot kind) (Byte first.byte) after rest (sym cut ∙ first.cut) in
    let heads : Slot kind ≡ Byte first.byte = both.0 in absurd (cc)

pub stops_end : (text : List ℕ) → ((symbol : Symbol) (rest : List ℕ) → text ≢ text_of_symbol symbol ++ rest) → StopsText text
stops_end text none rest first = none (Byte first.byte) rest first.cut

-- a word is held where its text is
pub held_is : (words : List (List ℕ)) (prev : Option ℕ) (kind : Kind) (word : ℕ) (text : List ℕ) → IsWritten words kind text word → HasKind text kind → IsHeldToken prev text ↔ IsHeldWord words prev kind word
held_is words prev kind word text written has_kind = (
  λ is. record { token = text; written = written; text = is.text; variable = is.variable; has_kind = has_kind },
  λ has.
      let same = one_writing words kind has.token text word has.written written in
      record { text = subst IsTokenText same has.text; variable = subst (λ t. IsVariable prev t) same has.variable },
)

stuck : (text : List ℕ) → 0 < length text → ((symbol : Symbol) (rest : List ℕ) → text ≢ text_of_symbol symbol ++ rest) → (parts : List Part) → text ≡ type_text (map symbol_of parts) → ⊥
stuck text some none [] typed = omega (arith, ap length typed)
stuck text some none (p ∷ parts) typed = none (symbol_of p) (type_text (map symbol_of parts)) typed

-- where no symbol is first, bytes that are left are no text of parts
pub cut_stuck : (words : List (List ℕ)) (prev : Option ℕ) (text row : List ℕ) → 0 < length text → ((symbol : Symbol) (rest : List ℕ) → text ≢ text_of_symbol symbol ++ rest) → ¬ IsCutText words prev text row
cut_stuck words prev text row some none whole = stuck text some none whole.parts whole.typed

no_words : (words : List (List ℕ)) (row : List ℕ) (parts : List Part) → [] ≡ type_text (map symbol_of parts) → EachWord (IsWritten words) parts row → row ≡ []
no_words words [] parts typed written = refl
no_words words (w ∷ row) [] typed written = absurd written
no_words words (w ∷ row) (p ∷ parts) typed written = absurd (some_byte (symbol_of p) (type_text (map symbol_of parts)) (sym typed))

-- at the end of a text no word is left
pub cut_end : {A : Type 0} (words : List (List ℕ)) (prev : Option ℕ) (rest left : List ℕ) → (A ↔ IsCutText words prev rest left) → rest ≡ [] → A ↔ (left ≡ [])
cut_end words prev rest left so_far end = (
  λ a. let whole = so_far.0 a in no_words words left whole.parts (sym end ∙ whole.typed) whole.written,
  λ none. so_far.1 (record { parts = []; typed = end; written = subst (λ l. EachWord (IsWritten words) [] l) (sym none) tt; cut = ended }),
)
