-- What the text of a log type is written as with words in its slots, symbol by symbol.
use Rattle.std.proofs.Common.{◌≡◌, ℕ, ◌-◌, ◌<◌, ◌≤◌, ◌^◌, Bool, true, false, cond, List, [], ◌∷◌, ◌++◌, length, get_or, take, drop, map, refl, sym, ◌∙◌, ap, subst, arith, append_assoc}
use Rattle.std.specs.Prelude.{◌≢◌, ◌↔◌, ◌==◌, All, Option, None, Some, MatchOption, IfNone, IfSome, IsTrue, is_some, slice_get}
use mathlib.Core.List.{IsPrefix}
use Rattle.std.proofs.lemmas.List.{append-nil, take_rest}
use Rattle.std.proofs.lemmas.Bool.Decides.{nat_tests}
use Rattle.std.proofs.lemmas.Option.{slice_get_within}
use Rattle.std.proofs.lemmas.List.Elements.{All-head, All-tail}
use Rattle.std.specs.Int.{cast_signed, w64}
use Rattle.std.specs.Fmt.{signed_decimal}
use Rattle.std.proofs.lemmas.Int.{of_z-to_z}
use borrow.Author.Gap.{read_sfits}
use Rattle.logtype_text.specs.declared.symbols.Kind.{Kind}
use Rattle.logtype_text.specs.declared.symbols.Kind.TheVariants.{Whole, Word}
use Rattle.logtype_text.specs.declared.symbols.Symbol.{Symbol}
use Rattle.logtype_text.specs.declared.symbols.Symbol.TheVariants.{Byte, Slot}
use Rattle.logtype_text.specs.Parts.{Part, Constant, Variable, joined, symbol_of}
use Rattle.logtype_text.specs.TypeText.{is_escaped, text_of_symbol, type_text}
use Rattle.logtype_text.proofs.TextLemmas.{first_same, some_byte}
use Rattle.row_codec.proofs.MeansLemmas.{one_writing}
use Rattle.column_store.specs.declared.row.Row.{Row}
use Rattle.row_codec.specs.Means.{EachWord, HasSpelling, HasStampText, IsSpelling, IsWritten}
use Rattle.row_codec.specs.StepsBody.{HasBody, HasNoText, HasStampWriting, HasWriting, IsBody, Puts}

-- what an option that is known says
pub at_none : {A P : Type 0} (o : Option A) → IfNone o P → o ≡ None → P
at_none None h is = h
at_none (Some x) h is = absurd (cc)

pub at_some : {A : Type 0} (o : Option A) (P : A → Type 0) (x : A) → IfSome o P → o ≡ Some x → P x
at_some None P x h is = absurd (cc)
at_some (Some y) P x h is = let same : y ≡ x = cc in subst P same h

no_parts : (words : List (List ℕ)) (parts : List Part) (row body : List ℕ) → [] ≡ type_text (map symbol_of parts) → EachWord (IsWritten words) parts row → body ≡ joined parts → (row ≡ []) × (body ≡ [])
no_parts words [] [] body typed written is = (refl, is)
no_parts words [] (w ∷ row) body typed written is = absurd written
no_parts words (p ∷ parts) row body typed written is = absurd (some_byte (symbol_of p) (type_text (map symbol_of parts)) (sym typed))

-- an empty text has no slots, and is written as nothing
pub body_empty : (words : List (List ℕ)) (row body : List ℕ) → IsBody words [] row body → (row ≡ []) × (body ≡ [])
body_empty words row body is = no_parts words is.parts row body is.typed is.written is.is

pub empty_body : (words : List (List ℕ)) → IsBody words [] [] []
empty_body words = record { parts = []; typed = refl; written = tt; is = refl }

byte_parts : (words : List (List ℕ)) (b : ℕ) (after row body : List ℕ) (parts : List Part) → text_of_symbol (Byte b) ++ after ≡ type_text (map symbol_of parts) → EachWord (IsWritten words) parts row → body ≡ joined parts → (tail : List ℕ) × IsBody words after row tail × (body ≡ b ∷ tail)
byte_parts words b after row body [] typed written is = absurd (some_byte (Byte b) after typed)
byte_parts words b after row body (Constant c ∷ parts) typed written is =
    let both = first_same (Byte b) (Byte c) after (type_text (map symbol_of parts)) typed in
    let heads : Byte b ≡ Byte c = both.0 in
    let bytes : b ≡ c = cc in
    (joined parts, record { parts = parts; typed = both.1; written = written; is = refl }, is ∙ ap (λ x. x ∷ joined parts) (sym bytes))
byte_parts words b after row body (Variable kind text ∷ parts) typed written is =
    let both = first_same (Byte b) (Slot kind) after (type_text (map symbol_of parts)) typed in
    absurd (let heads : Byte b ≡ Slot kind = both.0 in cc)

-- a constant
pub body_byte : (words : List (List ℕ)) (b : ℕ) (after row body : List ℕ) → IsBody words (text_of_symbol (Byte b) ++ after) row body → (tail : List ℕ) × IsBody words after row tail × (body ≡ b ∷ tail)
body_byte words b after row body is = byte_parts words b after row body is.parts is.typed is.written is.is

pub byte_body : (words : List (List ℕ)) (b : ℕ) (after row tail : List ℕ) → IsBody words after row tail → IsBody words (text_of_symbol (Byte b) ++ after) row (b ∷ tail)
byte_body words b after row tail is = record { parts = Constant b ∷ is.parts; typed = ap (λ l. text_of_symbol (Byte b) ++ l) is.typed; written = is.written; is = ap (λ l. b ∷ l) is.is }

-- a slot: a word is there, and it is written first
pub record IsSlotBody (words : List (List ℕ)) (kind : Kind) (after row body : List ℕ) : Type 0 where
  pub word : ℕ
  pub left : List ℕ
  pub text : List ℕ
  pub tail : List ℕ
  pub row_is : row ≡ word ∷ left
  pub written : IsWritten words kind text word
  pub rest : IsBody words after left tail
  pub is : body ≡ text ++ tail

slot_parts : (words : List (List ℕ)) (kind : Kind) (after row body : List ℕ) (parts : List Part) → text_of_symbol (Slot kind) ++ after ≡ type_text (map symbol_of parts) → EachWord (IsWritten words) parts row → body ≡ joined parts → IsSlotBody words kind after row body
slot_parts words kind after row body [] typed written is = absurd (some_byte (Slot kind) after typed)
slot_parts words kind after row body (Constant c ∷ parts) typed written is =
    let both = first_same (Slot kind) (Byte c) after (type_text (map symbol_of parts)) typed in
    absurd (let heads : Slot kind ≡ Byte c = both.0 in cc)
slot_parts words kind after [] body (Variable other text ∷ parts) typed written is = absurd written
slot_parts words kind after (w ∷ row) body (Variable other text ∷ parts) typed written is =
    let both = first_same (Slot kind) (Slot other) after (type_text (map symbol_of parts)) typed in
    let heads : Slot kind ≡ Slot other = both.0 in
    let kinds : other ≡ kind = cc in
    record {
      word = w;
      left = row;
      text = text;
      tail = joined parts;
      row_is = refl;
      written = subst (λ k. IsWritten words k text w) kinds written.0;
      rest = record { parts = parts; typed = both.1; written = written.1; is = refl };
      is = is;
    }

pub body_slot : (words : List (List ℕ)) (kind : Kind) (after row body : List ℕ) → IsBody words (text_of_symbol (Slot kind) ++ after) row body → IsSlotBody words kind after row body
body_slot words kind after row body is = slot_parts words kind after row body is.parts is.typed is.written is.is

pub slot_body : (words : List (List ℕ)) (kind : Kind) (after : List ℕ) (word : ℕ) (left text tail : List ℕ) → IsWritten words kind text word → IsBody words after left tail → IsBody words (text_of_symbol (Slot kind) ++ after) (word ∷ left) (text ++ tail)
slot_body words kind after word left text tail written is = record {
  parts = Variable kind text ∷ is.parts;
  typed = ap (λ l. text_of_symbol (Slot kind) ++ l) is.typed;
  written = (written, is.written);
  is = ap (λ l. text ++ l) is.is;
}

-- a byte that is a constant where it stands as it is
abbrev pub IsPlain : ℕ → Type 0
IsPlain b = is_escaped b ≡ false

-- constants that stand in the text as they are
pub plain_text : (b : ℕ) → is_escaped b ≡ false → text_of_symbol (Byte b) ≡ b ∷ []
plain_text b plain = ap (λ t. cond t (0x5C ∷ b ∷ []) (b ∷ [])) plain

pub body_plain : (words : List (List ℕ)) (bytes rest row body : List ℕ) → All IsPlain bytes → IsBody words (bytes ++ rest) row body → (tail : List ℕ) × IsBody words rest row tail × (body ≡ bytes ++ tail)
body_plain words [] rest row body plain is = (body, is, refl)
body_plain words (b ∷ bytes) rest row body plain is =
    let first = body_byte words b (bytes ++ rest) row body (subst (λ t. IsBody words (t ++ (bytes ++ rest)) row body) (sym (plain_text b (All-head IsPlain b bytes plain))) is) in
    let more = body_plain words bytes rest row first.0 (All-tail IsPlain b bytes plain) first.1 in
    (more.0, more.1, first.2 ∙ ap (λ l. b ∷ l) more.2)

pub plain_body : (words : List (List ℕ)) (bytes rest row tail : List ℕ) → All IsPlain bytes → IsBody words rest row tail → IsBody words (bytes ++ rest) row (bytes ++ tail)
plain_body words [] rest row tail plain is = is
plain_body words (b ∷ bytes) rest row tail plain is =
    subst (λ t. IsBody words (t ++ (bytes ++ rest)) row (b ∷ (bytes ++ tail))) (plain_text b (All-head IsPlain b bytes plain))
    (byte_body words b (bytes ++ rest) row (bytes ++ tail) (plain_body words bytes rest row tail (All-tail IsPlain b bytes plain) is))

stuck_parts : (words : List (List ℕ)) (text row body : List ℕ) (parts : List Part) → ((symbol : Symbol) (rest : List ℕ) → text ≢ text_of_symbol symbol ++ rest) → text ≡ type_text (map symbol_of parts) → text ≡ []
stuck_parts words text row body [] none typed = typed
stuck_parts words text row body (p ∷ parts) none typed = absurd (none (symbol_of p) (type_text (map symbol_of parts)) typed)

-- where no symbol is at the front, a text that can be written is at its end
pub body_end : (words : List (List ℕ)) (text row body : List ℕ) → ((symbol : Symbol) (rest : List ℕ) → text ≢ text_of_symbol symbol ++ rest) → IsBody words text row body → (text ≡ []) × (row ≡ []) × (body ≡ [])
body_end words text row body none is =
    let end = stuck_parts words text row body is.parts none is.typed in
    let both = body_empty words row body (subst (λ t. IsBody words t row body) end is) in
    (end, both.0, both.1)

-- whether a text can be written, by its first symbol
pub has_plain : (words : List (List ℕ)) (bytes rest row : List ℕ) → All IsPlain bytes → HasBody words (bytes ++ rest) row ↔ HasBody words rest row
has_plain words bytes rest row plain = (
  λ (body, is). let more = body_plain words bytes rest row body plain is in (more.0, more.1),
  λ (tail, is). (bytes ++ tail, plain_body words bytes rest row tail plain is),
)

pub has_byte : (words : List (List ℕ)) (b : ℕ) (after row : List ℕ) → HasBody words (text_of_symbol (Byte b) ++ after) row ↔ HasBody words after row
has_byte words b after row = (
  λ (body, is). let more = body_byte words b after row body is in (more.0, more.1),
  λ (tail, is). (b ∷ tail, byte_body words b after row tail is),
)

pub has_slot : (words : List (List ℕ)) (kind : Kind) (after : List ℕ) (word : ℕ) (left : List ℕ) → HasBody words (text_of_symbol (Slot kind) ++ after) (word ∷ left) ↔ (HasWriting words kind word × HasBody words after left)
has_slot words kind after word left = (
  λ (body, is).
      let slot = body_slot words kind after (word ∷ left) body is in
      let same : word ∷ left ≡ slot.word ∷ slot.left = slot.row_is in
      let first : slot.word ≡ word = cc in
      let others : slot.left ≡ left = cc in
      ((slot.text, subst (λ w. IsWritten words kind slot.text w) first slot.written), (slot.tail, subst (λ l. IsBody words after l slot.tail) others slot.rest)),
  λ ((text, written), (tail, is)). (text ++ tail, slot_body words kind after word left text tail written is),
)

pub no_slot : (words : List (List ℕ)) (kind : Kind) (after : List ℕ) → HasBody words (text_of_symbol (Slot kind) ++ after) [] → ⊥
no_slot words kind after (body, is) =
    let slot = body_slot words kind after [] body is in
    let same : [] ≡ slot.word ∷ slot.left = slot.row_is in cc

-- what is left fits where the whole does
pub fits_then : {A : Type 0} (words : List (List ℕ)) (rest left : List ℕ) (symbol : Symbol) (after others end : List ℕ) → rest ≡ text_of_symbol symbol ++ after
    → (A ↔ HasBody words rest left) → (HasBody words (text_of_symbol symbol ++ after) left ↔ HasBody words after others)
    → (HasBody words after others ↔ HasBody words end others) → (A ↔ HasBody words end others)
fits_then words rest left symbol after others end cut so_far one plain =
    let here = subst (λ t. HasBody words t left ↔ HasBody words after others) (sym cut) one in
    (λ a. plain.0 (here.0 (so_far.0 a)), λ has. so_far.1 (here.1 (plain.1 has)))

-- at the end of a text no word is left
pub fits_end : {A : Type 0} (words : List (List ℕ)) (rest left : List ℕ) → (A ↔ HasBody words rest left) → rest ≡ [] → A ↔ (left ≡ [])
fits_end words rest left so_far end = (
  λ a. let has = so_far.0 a in (body_empty words left has.0 (subst (λ t. IsBody words t left has.0) end has.1)).0,
  λ none. so_far.1 (subst (λ t. HasBody words t left) (sym end) (subst (λ l. HasBody words [] l) (sym none) ([], empty_body words))),
)

-- where no symbol is at the front and bytes are left, nothing can be written
pub fits_no_more : {A : Type 0} (words : List (List ℕ)) (rest left : List ℕ) → (A ↔ HasBody words rest left) → ((symbol : Symbol) (after : List ℕ) → rest ≢ text_of_symbol symbol ++ after) → rest ≢ [] → ¬ A
fits_no_more words rest left so_far none some a = let has = so_far.0 a in some (body_end words rest left has.0 none has.1).0

-- appending step by step
pub puts_then : (words : List (List ℕ)) (text row rest left end last old mid new : List ℕ) → Puts words text row rest left old mid → Puts words rest left end last mid new → Puts words text row end last old new
puts_then words text row rest left end last old mid new a b = record {
  bytes = a.bytes ++ b.bytes;
  appended = b.appended ∙ ap (λ l. l ++ b.bytes) a.appended ∙ append_assoc old a.bytes b.bytes;
  leads = λ body is.
      let first = a.leads body is in
      let more = b.leads first.0 first.1 in
      (more.0, more.1, first.2 ∙ ap (λ l. a.bytes ++ l) more.2 ∙ sym (append_assoc a.bytes b.bytes more.0));
  fits = λ has. a.fits (b.fits has);
}

pub puts_plain : (words : List (List ℕ)) (text row bytes rest old new : List ℕ) → text ≡ bytes ++ rest → All IsPlain bytes → new ≡ old ++ bytes → Puts words text row rest row old new
puts_plain words text row bytes rest old new cut plain appended = record {
  bytes = bytes;
  appended = appended;
  leads = λ body is. body_plain words bytes rest row body plain (subst (λ t. IsBody words t row body) cut is);
  fits = λ has. subst (λ t. HasBody words t row) (sym cut) ((has_plain words bytes rest row plain).1 has);
}

pub puts_byte : (words : List (List ℕ)) (text row : List ℕ) (b : ℕ) (after old new : List ℕ) → text ≡ text_of_symbol (Byte b) ++ after → new ≡ old ++ b ∷ [] → Puts words text row after row old new
puts_byte words text row b after old new cut appended = record {
  bytes = b ∷ [];
  appended = appended;
  leads = λ body is. body_byte words b after row body (subst (λ t. IsBody words t row body) cut is);
  fits = λ has. subst (λ t. HasBody words t row) (sym cut) ((has_byte words b after row).1 has);
}

pub puts_slot : (words : List (List ℕ)) (text row : List ℕ) (kind : Kind) (after : List ℕ) (word : ℕ) (left shown old new : List ℕ) → text ≡ text_of_symbol (Slot kind) ++ after → row ≡ word ∷ left → IsWritten words kind shown word → new ≡ old ++ shown → Puts words text row after left old new
puts_slot words text row kind after word left shown old new cut row_is written appended = record {
  bytes = shown;
  appended = appended;
  leads = λ body is.
      let slot = body_slot words kind after row body (subst (λ t. IsBody words t row body) cut is) in
      let same : word ∷ left ≡ slot.word ∷ slot.left = sym row_is ∙ slot.row_is in
      let first : slot.word ≡ word = cc in
      let others : slot.left ≡ left = cc in
      let texts : slot.text ≡ shown = one_writing words kind slot.text shown word (subst (λ w. IsWritten words kind slot.text w) first slot.written) written in
      (slot.tail, subst (λ l. IsBody words after l slot.tail) others slot.rest, slot.is ∙ ap (λ l. l ++ slot.tail) texts);
  fits = λ has. subst (λ t. HasBody words t row) (sym cut) (subst (λ l. HasBody words (text_of_symbol (Slot kind) ++ after) l) (sym row_is) ((has_slot words kind after word left).1 ((shown, written), has)));
}

-- all of the text was written
pub puts_all : (words : List (List ℕ)) (text row rest left old new : List ℕ) → HasBody words text row → ((symbol : Symbol) (after : List ℕ) → rest ≢ text_of_symbol symbol ++ after) → Puts words text row rest left old new → (body : List ℕ) × IsBody words text row body × (new ≡ old ++ body)
puts_all words text row rest left old new (body, is) none puts =
    let more = puts.leads body is in
    let end = body_end words rest left more.0 none more.1 in
    let whole : body ≡ puts.bytes = more.2 ∙ ap (λ l. puts.bytes ++ l) end.2 ∙ append-nil puts.bytes in
    (body, is, puts.appended ∙ ap (λ l. old ++ l) (sym whole))

-- what is left can be written where the whole can
pub puts_has : (words : List (List ℕ)) (text row rest left old new : List ℕ) → Puts words text row rest left old new → HasBody words text row → HasBody words rest left
puts_has words text row rest left old new puts (body, is) = let more = puts.leads body is in (more.0, more.1)

-- nothing is left: it can be written, and all of it was
pub puts_end : (words : List (List ℕ)) (text row rest left old new : List ℕ) → (rest ≡ []) × (left ≡ []) → Puts words text row rest left old new → (body : List ℕ) × IsBody words text row body × (new ≡ old ++ body)
puts_end words text row rest left old new (ends, none) puts =
    let has : HasBody words rest left = subst (λ t. HasBody words t left) (sym ends) (subst (λ l. HasBody words [] l) (sym none) ([], empty_body words)) in
    let stuck : (symbol : Symbol) (after : List ℕ) → rest ≢ text_of_symbol symbol ++ after = λ symbol after is. some_byte symbol after (sym is ∙ ends) in
    puts_all words text row rest left old new (puts.fits has) stuck puts

-- no symbol is at the front of what is left: where the whole can be written, nothing is left
pub puts_stuck : (words : List (List ℕ)) (text row rest left old new : List ℕ) → ((symbol : Symbol) (after : List ℕ) → rest ≢ text_of_symbol symbol ++ after) → Puts words text row rest left old new → HasBody words text row → (rest ≡ []) × (left ≡ [])
puts_stuck words text row rest left old new none puts has =
    let more = puts_has words text row rest left old new puts has in
    let end = body_end words rest left more.0 none more.1 in (end.0, end.1)

-- a whole number of each word can be written
pub whole_writing : (words : List (List ℕ)) (word : ℕ) → word < 2 ^ 64 → HasWriting words Whole word
whole_writing words word fits =
    (signed_decimal (cast_signed w64 word), (cast_signed w64 word, record { fits = read_sfits w64 word; prints = refl }, sym (of_z-to_z w64 word fits)))

-- a word of a dictionary can be written where its number has a text
pub word_writing : {A : Type 0} (words : List (List ℕ)) (word : ℕ) (f : A → List ℕ) (found : Option A) → MatchOption found (HasNoText words word) (λ t. slice_get words word ≡ Some (f t)) → IsTrue (is_some found) ↔ HasWriting words Word word
word_writing words word f (Some t) at = (λ yes. (f t, at), λ has. refl)
word_writing words word f None none = (λ yes. absurd (cc), λ (text, at). absurd (none text at))

pub none_left : (xs : List ℕ) → (length xs == 0) ≡ true → xs ≡ []
none_left [] is = refl
none_left (x ∷ xs) is = absurd (grind (arith, nat_tests))

pub some_left : (xs : List ℕ) → (length xs == 0) ≡ false → xs ≢ []
some_left xs is none = let same : (length {A = ℕ} [] == 0) ≡ false = subst (λ l. (length l == 0) ≡ false) none is in cc

-- a row can be written where its stamp can and the text of its log type with its words
pub has_spelling : (row : Row) (types words : List (List ℕ)) (text : List ℕ) → slice_get types row.log_type ≡ Some text → HasStampWriting row.pattern row.moment → HasBody words text row.words → HasSpelling row types words
has_spelling row types words text at (stamp, stamped) (body, is) = (
  stamp ++ body,
  record {
    stamp = stamp;
    parts = is.parts;
    typed = at ∙ ap (λ t. Some t) is.typed;
    written = is.written;
    stamped = stamped;
    is = ap (λ l. stamp ++ l) is.is;
  },
)

pub spelling_stamp : (row : Row) (types words : List (List ℕ)) → HasSpelling row types words → HasStampWriting row.pattern row.moment
spelling_stamp row types words (message, is) = (is.stamp, is.stamped)

pub spelling_body : (row : Row) (types words : List (List ℕ)) (text : List ℕ) → slice_get types row.log_type ≡ Some text → HasSpelling row types words → HasBody words text row.words
spelling_body row types words text at (message, is) =
    let found : Some text ≡ Some (type_text (map symbol_of is.parts)) = sym at ∙ is.typed in
    let same : text ≡ type_text (map symbol_of is.parts) = cc in
    (joined is.parts, record { parts = is.parts; typed = same; written = is.written; is = refl })

pub spelling_found : (row : Row) (types words : List (List ℕ)) → length types ≤ row.log_type → ¬ HasSpelling row types words
spelling_found row types words past (message, is) =
    let within = slice_get_within types row.log_type (type_text (map symbol_of is.parts)) is.typed in omega arith

-- the text of the log type of a row that can be written, which can be written with the row's words
pub spelling_text : (row : Row) (types words : List (List ℕ)) → HasSpelling row types words → (text : List ℕ) × (slice_get types row.log_type ≡ Some text) × HasBody words text row.words
spelling_text row types words (message, is) =
    (type_text (map symbol_of is.parts), is.typed, (joined is.parts, record { parts = is.parts; typed = refl; written = is.written; is = refl }))

-- what was appended for the stamp and then for the body is what the row is written as
pub spelled : (row : Row) (types words : List (List ℕ)) (text stamp body old mid new : List ℕ) → slice_get types row.log_type ≡ Some text → HasStampText row.pattern row.moment stamp → IsBody words text row.words body → mid ≡ old ++ stamp → new ≡ mid ++ body → (message : List ℕ) × IsSpelling row types words message × (new ≡ old ++ message)
spelled row types words text stamp body old mid new at stamped is first then = (
  stamp ++ body,
  record {
    stamp = stamp;
    parts = is.parts;
    typed = at ∙ ap (λ t. Some t) is.typed;
    written = is.written;
    stamped = stamped;
    is = ap (λ l. stamp ++ l) is.is;
  },
  then ∙ ap (λ l. l ++ body) first ∙ append_assoc old stamp body,
)

-- fronts
pub front_self : (xs : List ℕ) → IsPrefix xs xs
front_self xs = ([], append-nil xs)

pub front_then : (xs ys zs : List ℕ) → IsPrefix xs ys → IsPrefix ys zs → IsPrefix xs zs
front_then xs ys zs a b = (a.0 ++ b.0, sym (append_assoc xs a.0 b.0) ∙ ap (λ l. l ++ b.0) a.1 ∙ b.1)

pub front_put : (ok : Bool) (old bytes new : List ℕ) → new ≡ cond ok (old ++ bytes) old → IsPrefix old new
front_put true old bytes new is = (bytes, sym is)
front_put false old bytes new is = ([], append-nil old ∙ sym is)

-- a list that is not empty, as it is taken apart
pub first_left : (xs : List ℕ) → 1 ≤ length xs → xs ≡ get_or xs 0 0 ∷ take (length xs - 1) (drop 1 xs)
first_left [] some = absurd (omega arith)
first_left (x ∷ xs) some = ap (λ l. x ∷ l) (sym (take_rest (x ∷ xs) 1))

pub no_first : (xs : List ℕ) → length xs < 1 → xs ≡ []
no_first [] none = refl
no_first (x ∷ xs) none = absurd (omega arith)

-- the symbol is a slot, whose word fits or does not
pub slot_fits : (words : List (List ℕ)) (symbol : Symbol) (kind : Kind) (after row : List ℕ) (word : ℕ) (left : List ℕ) → symbol ≡ Slot kind → row ≡ word ∷ left → HasWriting words kind word → HasBody words (text_of_symbol symbol ++ after) row ↔ HasBody words after left
slot_fits words symbol kind after row word left is cut has =
    let both = has_slot words kind after word left in
    subst (λ s. HasBody words (text_of_symbol s ++ after) row ↔ HasBody words after left) (sym is)
    (subst (λ l. HasBody words (text_of_symbol (Slot kind) ++ after) l ↔ HasBody words after left) (sym cut)
    (λ whole. (both.0 whole).1, λ rest. both.1 (has, rest)))

pub slot_writing : (words : List (List ℕ)) (symbol : Symbol) (kind : Kind) (after row : List ℕ) (word : ℕ) (left : List ℕ) → symbol ≡ Slot kind → row ≡ word ∷ left → HasBody words (text_of_symbol symbol ++ after) row → HasWriting words kind word
slot_writing words symbol kind after row word left is cut whole =
    ((has_slot words kind after word left).0 (subst (λ l. HasBody words (text_of_symbol (Slot kind) ++ after) l) cut (subst (λ s. HasBody words (text_of_symbol s ++ after) row) is whole))).0

pub slot_empty : (words : List (List ℕ)) (symbol : Symbol) (kind : Kind) (after row : List ℕ) → symbol ≡ Slot kind → length row < 1 → ¬ HasBody words (text_of_symbol symbol ++ after) row
slot_empty words symbol kind after row is none whole =
    no_slot words kind after (subst (λ l. HasBody words (text_of_symbol (Slot kind) ++ after) l) (no_first row none) (subst (λ s. HasBody words (text_of_symbol s ++ after) row) is whole))

pub byte_fits : (words : List (List ℕ)) (symbol : Symbol) (b : ℕ) (after row : List ℕ) → symbol ≡ Byte b → HasBody words (text_of_symbol symbol ++ after) row ↔ HasBody words after row
byte_fits words symbol b after row is = subst (λ s. HasBody words (text_of_symbol s ++ after) row ↔ HasBody words after row) (sym is) (has_byte words b after row)

pub symbol_puts_byte : (words : List (List ℕ)) (row : List ℕ) (symbol : Symbol) (b : ℕ) (after old new : List ℕ) → symbol ≡ Byte b → new ≡ old ++ b ∷ [] → Puts words (text_of_symbol symbol ++ after) row after row old new
symbol_puts_byte words row symbol b after old new is put = puts_byte words (text_of_symbol symbol ++ after) row b after old new (ap (λ s. text_of_symbol s ++ after) is) put

pub symbol_puts_slot : (words : List (List ℕ)) (row : List ℕ) (symbol : Symbol) (kind : Kind) (after : List ℕ) (word : ℕ) (left shown old new : List ℕ) → symbol ≡ Slot kind → row ≡ word ∷ left → IsWritten words kind shown word → new ≡ old ++ shown → Puts words (text_of_symbol symbol ++ after) row after left old new
symbol_puts_slot words row symbol kind after word left shown old new is cut written put = puts_slot words (text_of_symbol symbol ++ after) row kind after word left shown old new (ap (λ s. text_of_symbol s ++ after) is) cut written put

-- a loop over the symbols
pub puts_more : (words : List (List ℕ)) (text row rest left : List ℕ) (symbol : Symbol) (after others end old mid new last : List ℕ) → rest ≡ text_of_symbol symbol ++ after
    → Puts words text row rest left old mid → Puts words (text_of_symbol symbol ++ after) left after others mid new → Puts words after others end others new last
    → Puts words text row end others old last
puts_more words text row rest left symbol after others end old mid new last cut so_far one plain =
    puts_then words text row after others end others old new last
    (puts_then words text row rest left after others old mid new so_far (subst (λ t. Puts words t left after others mid new) (sym cut) one)) plain
