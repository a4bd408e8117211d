-- Whether rows can be written, and what they are written as, can be told.
use Rattle.std.proofs.Common.{◌≡◌, refl, sym, ap, ap₂, subst, ◌∙◌, ◌+◌, ◌/◌, ◌%◌, ◌^◌, ◌<◌, inl, inr, ⊎_elim, ℕ, true, cond, List, [], ◌∷◌, ◌++◌, Option, None, Some, map, arith}
use Rattle.std.specs.Prelude.{All, slice_get}
use Rattle.std.proofs.lemmas.Bool.{both_ways, cases_Bool, cases_eq, cases_lt}
use Rattle.std.proofs.lemmas.List.Elements.{All-head, All-tail}
use Rattle.var_codec.specs.Codes.{IsDecimalWord}
use Rattle.var_codec.proofs.Printed.{has_text, word_of_text}
use Rattle.logtype_text.specs.declared.symbols.Kind.{Kind}
use Rattle.logtype_text.specs.declared.symbols.Kind.TheVariants.{Decimal, Whole, Word}
use Rattle.logtype_text.specs.declared.symbols.Symbol.{Symbol}
use Rattle.logtype_text.specs.declared.symbols.Symbol.TheVariants.{Byte, Slot}
use Rattle.logtype_text.specs.Parts.{symbol_of}
use Rattle.logtype_text.specs.TypeText.{IsTypeText, is_escaped, type_text}
use Rattle.logtype_text.proofs.TextLemmas.{after_escape, byte_symbol, fronts, plain_symbol}
use Rattle.column_store.specs.declared.row.Row.{Row}
use Rattle.column_store.specs.Row.{IsRow}
use Rattle.row_codec.specs.Means.{HasSpelling}
use Rattle.row_codec.specs.StepsBody.{HasBody, HasWriting}
use Rattle.row_codec.proofs.BodyLemmas.{body_empty, empty_body, has_byte, has_slot, has_spelling, no_slot, spelling_body, spelling_stamp, whole_writing}
use Rattle.archive_text.specs.Told.{AreWritten}
use Rattle.archive_text.proofs.DecideStamp.{Decided, dec_stamp}

dec_decimal : (word : ℕ) → Decided (IsDecimalWord word)
dec_decimal word = elim (cases_eq (word / 2 ^ 62 % 2) 0) [
  | inl bit ↦ elim (cases_lt (word / 2 ^ 8 % 2 ^ 54) (10 ^ (word / 2 ^ 4 % 2 ^ 4 + 1))) [
    | inl few ↦ elim (cases_lt (word / 2 ^ 4 % 2 ^ 4 + 1) (word % 2 ^ 4 + 1)) [
      | inl more ↦ inr (λ is. absurd (omega (arith, more, is.places)))
      | inr fits ↦ inl (record { zero_bit = bit; digits = few; places = fits })
    ]
    | inr many ↦ inr (λ is. absurd (omega (arith, many, is.digits)))
  ]
  | inr none ↦ inr (λ is. none is.zero_bit)
]

dec_writing : (words : List (List ℕ)) (kind : Kind) (word : ℕ) → word < 2 ^ 64 → Decided (HasWriting words kind word)
dec_writing words Whole word fits = inl (whole_writing words word fits)
dec_writing words Decimal word fits = ⊎_elim (λ is. inl (has_text word fits is)) (λ none. inr (λ has. none (word_of_text word has))) (dec_decimal word)
dec_writing words Word word fits = by_text (slice_get words word) refl
  where
    by_text : (o : Option (List ℕ)) → slice_get words word ≡ o → Decided (HasWriting words Word word)
    by_text None none = inr (λ has. absurd (cc (none, has.1)))
    by_text (Some text) at = inl (text, at)

abbrev Fits : ℕ → Type 0
Fits w = w < 2 ^ 64

dec_symbols : (words : List (List ℕ)) (symbols : List Symbol) (row : List ℕ) → All Fits row → Decided (HasBody words (type_text symbols) row)
dec_symbols words [] [] fits = inl ([], empty_body words)
dec_symbols words [] (w ∷ row) fits = inr (λ has. let none = (body_empty words (w ∷ row) has.0 has.1).0 in absurd (cc none))
dec_symbols words (Byte b ∷ symbols) row fits =
    let both = has_byte words b (type_text symbols) row in
    ⊎_elim (λ has. inl (both.1 has)) (λ none. inr (λ has. none (both.0 has))) (dec_symbols words symbols row fits)
dec_symbols words (Slot kind ∷ symbols) [] fits = inr (λ has. no_slot words kind (type_text symbols) has)
dec_symbols words (Slot kind ∷ symbols) (w ∷ row) fits =
    let both = has_slot words kind (type_text symbols) w row in
    ⊎_elim (λ writing. ⊎_elim (λ rest. inl (both.1 (writing, rest))) (λ none. inr (λ has. none (both.0 has).1)) (dec_symbols words symbols row (All-tail Fits w row fits)))
    (λ none. inr (λ has. none (both.0 has).0)) (dec_writing words kind w (All-head Fits w row fits))

-- whether a text is one of symbols, from the front
dec_text : (text : List ℕ) → Decided (IsTypeText text)
dec_text [] = inl ([], refl)
dec_text (b ∷ []) = elim (cases_eq b 0x5C) [
  | inl here ↦ inr (λ is. let e = after_escape (b ∷ []) (omega arith) is here in absurd (omega (arith, e.two)))
  | inr other ↦ inl (plain_symbol b ∷ [], ap (λ l. l ++ []) (byte_symbol b other))
]
dec_text (b ∷ d ∷ rest) = elim (cases_eq b 0x5C) [
  | inl here ↦ elim (cases_Bool (is_escaped d)) [
    | inl escaped ↦ ⊎_elim (λ is. inl (Byte d ∷ is.0, with_escape here escaped is.0 is.1)) (λ none. inr (λ is. none (after_escape (b ∷ d ∷ rest) (omega arith) is here).rest)) (dec_text rest)
    | inr plain ↦ inr (λ is. both_ways (is_escaped d) plain (after_escape (b ∷ d ∷ rest) (omega arith) is here).escaped)
  ]
  | inr other ↦ ⊎_elim (λ is. inl (plain_symbol b ∷ is.0, ap₂ (λ (l r : List ℕ). l ++ r) (byte_symbol b other) is.1)) (λ none. inr (λ is. none (behind_plain other is))) (dec_text (d ∷ rest))
]
  where
    with_escape : b ≡ 0x5C → is_escaped d ≡ true → (symbols : List Symbol) → type_text symbols ≡ rest → type_text (Byte d ∷ symbols) ≡ b ∷ d ∷ rest
    with_escape here escaped symbols is =
        ap₂ (λ (l r : List ℕ). l ++ r) (ap (λ t. cond t (0x5C ∷ d ∷ []) (d ∷ [])) escaped) is ∙ ap (λ n. n ∷ d ∷ rest) (sym here)

    behind_plain : (b ≡ 0x5C → ⊥) → IsTypeText (b ∷ d ∷ rest) → IsTypeText (d ∷ rest)
    behind_plain other is = elim (fronts (b ∷ d ∷ rest) (omega arith) is) [ inl front ↦ front.rest | inr escape ↦ absurd (other escape.here) ]

dec_body : (words : List (List ℕ)) (text row : List ℕ) → All Fits row → Decided (HasBody words text row)
dec_body words text row fits =
    ⊎_elim (λ is. subst (λ t. Decided (HasBody words t row)) is.1 (dec_symbols words is.0 row fits)) (λ none. inr (λ has. none (map symbol_of has.1.parts, sym has.1.typed))) (dec_text text)

dec_spelling : (types words : List (List ℕ)) (row : Row) → IsRow row → Decided (HasSpelling row types words)
dec_spelling types words row is = by_text (slice_get types row.log_type) refl
  where
    by_text : (o : Option (List ℕ)) → slice_get types row.log_type ≡ o → Decided (HasSpelling row types words)
    by_text None none = inr (λ has. absurd (cc (none, has.1.typed)))
    by_text (Some text) at =
        ⊎_elim (λ stamp. ⊎_elim (λ body. inl (has_spelling row types words text at stamp body)) (λ none. inr (λ has. none (spelling_body row types words text at has))) (dec_body words text row.words is.words))
        (λ none. inr (λ has. none (spelling_stamp row types words has))) (dec_stamp row.pattern row.moment)

pub dec_rows : (types words : List (List ℕ)) (rows : List Row) → All IsRow rows → Decided ((messages : List (List ℕ)) × AreWritten types words rows messages)
dec_rows types words [] fit = inl ([], tt)
dec_rows types words (row ∷ rows) fit =
    ⊎_elim (λ one. ⊎_elim (λ others. inl (one.0 ∷ others.0, (one.1, others.1))) (λ none. inr (others_not none)) (dec_rows types words rows (All-tail IsRow row rows fit)))
    (λ none. inr (one_not none)) (dec_spelling types words row (All-head IsRow row rows fit))
  where
    one_not : (HasSpelling row types words → ⊥) → ((messages : List (List ℕ)) × AreWritten types words (row ∷ rows) messages) → ⊥
    one_not none ([], all) = elim all [ ]
    one_not none (m ∷ messages, all) = none (m, all.0)

    others_not : (((messages : List (List ℕ)) × AreWritten types words rows messages) → ⊥) → ((messages : List (List ℕ)) × AreWritten types words (row ∷ rows) messages) → ⊥
    others_not none ([], all) = elim all [ ]
    others_not none (m ∷ messages, all) = none (messages, all.1)
