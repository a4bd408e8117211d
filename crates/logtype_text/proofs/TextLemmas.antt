-- The texts of symbols: none is the front of another, so a text is read in one way only.
use Rattle.std.proofs.Common.{◌≡◌, ℕ, ◌+◌, ◌-◌, ◌<◌, ◌≤◌, ◌⊎◌, Bool, true, false, cond, List, [], ◌∷◌, ◌++◌, length, take, drop, refl, sym, ◌∙◌, ap, ap₂, subst, arith, inl, inr, append_assoc, take-append-drop, length-take-le}
use Rattle.std.specs.Prelude.{◌≢◌, ◌↔◌, not, Option, None, Some, is_some, MatchOption, if◌then◌else◌, ◌==◌, IsTrue, IfSome, slice_get, slice_index}
use Rattle.std.proofs.lemmas.Bool.{cases_Bool, cases_eq, both_ways}
use Rattle.std.proofs.lemmas.Bool.Decides.{nat_tests}
use Rattle.std.proofs.lemmas.List.{append-nil, drop_more, take_more, drop_all, take_rest}
use Rattle.std.proofs.lemmas.Grind.{flat_map-append}
use Rattle.logtype_text.specs.declared.symbols.Kind.TheVariants.{Whole, Word, Decimal}
use Rattle.logtype_text.specs.declared.symbols.Symbol.{Symbol}
use Rattle.logtype_text.specs.declared.symbols.Symbol.TheVariants.{Byte, Slot}
use Rattle.logtype_text.specs.TypeText.{is_escaped, text_of_symbol, type_text, IsTypeText, IsLoneAt, IsGood}

-- the symbol that one byte without an escape stands for
abbrev pub plain_symbol : ℕ → Symbol
plain_symbol b = if b == 0x11 then Slot Whole else (if b == 0x12 then Slot Word else (if b == 0x13 then Slot Decimal else Byte b))

-- a symbol of one byte, which is no `\`
pub record IsPlain (s : Symbol) : Type 0 where
  pub byte : ℕ
  pub text : text_of_symbol s ≡ byte ∷ []
  pub other : byte ≢ 0x5C
  pub symbol : s ≡ plain_symbol byte

-- a constant byte after a `\`
pub record IsEscape (s : Symbol) : Type 0 where
  pub byte : ℕ
  pub text : text_of_symbol s ≡ 0x5C ∷ byte ∷ []
  pub escaped : is_escaped byte ≡ true
  pub symbol : s ≡ Byte byte

escaped_text : (b : ℕ) (e : Bool) → is_escaped b ≡ e → text_of_symbol (Byte b) ≡ cond e (0x5C ∷ b ∷ []) (b ∷ [])
escaped_text b e is = ap (λ t. cond t (0x5C ∷ b ∷ []) (b ∷ [])) is

no_escape : (b : ℕ) → is_escaped b ≡ false → b ≢ 0x5C
no_escape b plain same = grind (arith, nat_tests)

plain_byte : (b : ℕ) → is_escaped b ≡ false → Byte b ≡ plain_symbol b
plain_byte b plain = grind (arith, nat_tests)

-- each symbol is of one of the two forms
pub forms : (s : Symbol) → IsPlain s ⊎ IsEscape s
forms (Byte b) = elim (cases_Bool (is_escaped b)) [
  | inl escaped ↦ inr (record { byte = b; text = escaped_text b true escaped; escaped = escaped; symbol = refl })
  | inr plain ↦ inl (record { byte = b; text = escaped_text b false plain; other = no_escape b plain; symbol = plain_byte b plain })
]
forms (Slot Whole) = inl (record { byte = 0x11; text = refl; other = omega arith; symbol = refl })
forms (Slot Word) = inl (record { byte = 0x12; text = refl; other = omega arith; symbol = refl })
forms (Slot Decimal) = inl (record { byte = 0x13; text = refl; other = omega arith; symbol = refl })

-- a byte that is no `\` is a symbol
pub byte_symbol : (b : ℕ) → b ≢ 0x5C → text_of_symbol (plain_symbol b) ≡ b ∷ []
byte_symbol b other = grind (arith, nat_tests)

-- no symbol's text is the front of another's
pub first_same : (s t : Symbol) (xs ys : List ℕ) → text_of_symbol s ++ xs ≡ text_of_symbol t ++ ys → (s ≡ t) × (xs ≡ ys)
first_same s t xs ys same = elim (forms s) [
  | inl p ↦ elim (forms t) [
    | inl q ↦
        let bytes : p.byte ∷ xs ≡ q.byte ∷ ys = ap (λ l. l ++ xs) (sym p.text) ∙ same ∙ ap (λ l. l ++ ys) q.text in
        let heads : p.byte ≡ q.byte = cc in
        (p.symbol ∙ ap plain_symbol heads ∙ sym q.symbol, cc)
    | inr q ↦
        let bytes : p.byte ∷ xs ≡ 0x5C ∷ q.byte ∷ ys = ap (λ l. l ++ xs) (sym p.text) ∙ same ∙ ap (λ l. l ++ ys) q.text in
        let heads : p.byte ≡ 0x5C = cc in
        absurd (p.other heads)
  ]
  | inr p ↦ elim (forms t) [
    | inl q ↦
        let bytes : 0x5C ∷ p.byte ∷ xs ≡ q.byte ∷ ys = ap (λ l. l ++ xs) (sym p.text) ∙ same ∙ ap (λ l. l ++ ys) q.text in
        let heads : q.byte ≡ 0x5C = cc in
        absurd (q.other heads)
    | inr q ↦
        let bytes : 0x5C ∷ p.byte ∷ xs ≡ 0x5C ∷ q.byte ∷ ys = ap (λ l. l ++ xs) (sym p.text) ∙ same ∙ ap (λ l. l ++ ys) q.text in
        let heads : p.byte ≡ q.byte = cc in
        (p.symbol ∙ ap Byte heads ∙ sym q.symbol, cc)
  ]
]

-- a symbol has a byte
pub some_byte : (s : Symbol) (xs : List ℕ) → text_of_symbol s ++ xs ≡ [] → ⊥
some_byte s xs none = elim (forms s) [
  | inl p ↦ let bytes : p.byte ∷ xs ≡ [] = ap (λ l. l ++ xs) (sym p.text) ∙ none in cc
  | inr p ↦ let bytes : 0x5C ∷ p.byte ∷ xs ≡ [] = ap (λ l. l ++ xs) (sym p.text) ∙ none in cc
]

pub one_text : (a b : List Symbol) → type_text a ≡ type_text b → a ≡ b
one_text [] [] same = refl
one_text [] (t ∷ b) same = absurd (some_byte t (type_text b) (sym same))
one_text (s ∷ a) [] same = absurd (some_byte s (type_text a) same)
one_text (s ∷ a) (t ∷ b) same =
    let both = first_same s t (type_text a) (type_text b) same in
    ap₂ (λ x l. x ∷ l) both.0 (one_text a b both.1)

-- a lone `\` does not begin the text of symbols
abbrev pub IsLone : List ℕ → Type 0
IsLone back = IfSome (slice_get back 0) (λ b. ¬ IsTrue (is_escaped b))

no_lone : (s : Symbol) (xs back : List ℕ) → IsLone back → text_of_symbol s ++ xs ≡ 0x5C ∷ back → ⊥
no_lone s xs back lone same = elim (forms s) [
  | inl p ↦
      let bytes : p.byte ∷ xs ≡ 0x5C ∷ back = ap (λ l. l ++ xs) (sym p.text) ∙ same in
      let heads : p.byte ≡ 0x5C = cc in
      p.other heads
  | inr p ↦
      let bytes : 0x5C ∷ p.byte ∷ xs ≡ 0x5C ∷ back = ap (λ l. l ++ xs) (sym p.text) ∙ same in
      let rest : back ≡ p.byte ∷ xs = cc in
      let at_front : IsLone (p.byte ∷ xs) = subst IsLone rest lone in
      at_front p.escaped
]

-- a text of symbols has no lone `\`
no_lone_in : (symbols front : List Symbol) (back : List ℕ) → IsLone back → type_text symbols ≡ type_text front ++ (0x5C ∷ back) → ⊥
no_lone_in [] [] back lone same = cc
no_lone_in [] (f ∷ front) back lone same = some_byte f (type_text front ++ (0x5C ∷ back)) (sym (same ∙ append_assoc (text_of_symbol f) (type_text front) (0x5C ∷ back)))
no_lone_in (s ∷ symbols) [] back lone same = no_lone s (type_text symbols) back lone same
no_lone_in (s ∷ symbols) (f ∷ front) back lone same =
    no_lone_in symbols front back lone (first_same s f (type_text symbols) (type_text front ++ (0x5C ∷ back)) (same ∙ append_assoc (text_of_symbol f) (type_text front) (0x5C ∷ back))).1

pub type_text_is_good : (text : List ℕ) → IsTypeText text → IsGood text
type_text_is_good text (symbols, spells) at lone = no_lone_in symbols lone.front lone.back lone.lone (spells ∙ lone.cut)

-- there is one first lone `\`
one_front : (front front' : List Symbol) (back back' : List ℕ) → IsLone back → IsLone back' → type_text front ++ (0x5C ∷ back) ≡ type_text front' ++ (0x5C ∷ back') → front ≡ front'
one_front [] [] back back' lone lone' same = refl
one_front [] (g ∷ front') back back' lone lone' same = absurd (no_lone g (type_text front' ++ (0x5C ∷ back')) back lone (sym (same ∙ append_assoc (text_of_symbol g) (type_text front') (0x5C ∷ back'))))
one_front (f ∷ front) [] back back' lone lone' same = absurd (no_lone f (type_text front ++ (0x5C ∷ back)) back' lone' (sym (append_assoc (text_of_symbol f) (type_text front) (0x5C ∷ back)) ∙ same))
one_front (f ∷ front) (g ∷ front') back back' lone lone' same =
    let both = first_same f g (type_text front ++ (0x5C ∷ back)) (type_text front' ++ (0x5C ∷ back')) (sym (append_assoc (text_of_symbol f) (type_text front) (0x5C ∷ back)) ∙ same ∙ append_assoc (text_of_symbol g) (type_text front') (0x5C ∷ back')) in
    ap₂ (λ x l. x ∷ l) both.0 (one_front front front' back back' lone lone' both.1)

pub one_lone : (text : List ℕ) (at at' : ℕ) → IsLoneAt text at → IsLoneAt text at' → at ≡ at'
one_lone text at at' one other =
    one.place ∙ ap (λ l. length (type_text l)) (one_front one.front other.front one.back other.back one.lone other.lone (sym one.cut ∙ other.cut)) ∙ sym other.place

-- one symbol more
pub type_text_push : (symbols : List Symbol) (s : Symbol) → type_text (symbols ++ s ∷ []) ≡ type_text symbols ++ text_of_symbol s
type_text_push symbols s = flat_map-append text_of_symbol symbols (s ∷ []) ∙ ap (λ l. type_text symbols ++ l) (append-nil (text_of_symbol s))

-- the front of a text grows by the bytes of a symbol
spelled_more : (front back : List ℕ) (s : Symbol) → IsTypeText front → back ≡ text_of_symbol s → IsTypeText (front ++ back)
spelled_more front back s (symbols, spells) is = (symbols ++ s ∷ [], type_text_push symbols s ∙ ap₂ (λ x y. x ++ y) spells (sym is))

pub spelled_byte : (text : List ℕ) (at : ℕ) → at < length text → IsTypeText (take at text) → slice_index text at ≢ 0x5C → IsTypeText (take (at + 1) text)
spelled_byte text at inside front other =
    let b = slice_index text at in
    subst IsTypeText (sym (take_more text at 0 inside)) (spelled_more (take at text) (b ∷ []) (plain_symbol b) front (sym (byte_symbol b other)))

pub spelled_escape : (text : List ℕ) (at : ℕ) → at + 1 < length text → IsTypeText (take at text) → slice_index text at ≡ 0x5C → is_escaped (slice_index text (at + 1)) ≡ true → IsTypeText (take (at + 2) text)
spelled_escape text at inside front here escaped =
    let b = slice_index text (at + 1) in
    let two : at + 2 ≡ at + 1 + 1 = omega arith in
    let parts : take (at + 2) text ≡ take at text ++ (0x5C ∷ b ∷ []) =
    ap (λ n. take n text) two ∙ take_more text (at + 1) 0 inside
    ∙ ap (λ l. l ++ b ∷ []) (take_more text at 0 (omega arith))
    ∙ append_assoc (take at text) (slice_index text at ∷ []) (b ∷ [])
    ∙ ap (λ n. take at text ++ (n ∷ b ∷ [])) here in
    subst IsTypeText (sym parts) (spelled_more (take at text) (0x5C ∷ b ∷ []) (Byte b) front (sym (escaped_text b true escaped)))

-- a `\` that stands before no byte that needs it
pub lone_at : (text : List ℕ) (at : ℕ) → at < length text → IsTypeText (take at text) → slice_index text at ≡ 0x5C → IsLone (drop (at + 1) text) → IsLoneAt text at
lone_at text at inside (front, spells) here lone = record {
  front = front;
  back = drop (at + 1) text;
  cut = sym (take-append-drop at text) ∙ ap₂ (λ x y. x ++ y) (sym spells) (drop_more text at 0 inside ∙ ap (λ b. b ∷ drop (at + 1) text) here);
  place = sym (ap length spells ∙ length-take-le at text (omega arith));
  lone = lone;
}

-- nothing follows
pub lone_at_end : (text : List ℕ) (n : ℕ) → length text ≤ n → IsLone (drop n text)
lone_at_end text n past = subst IsLone (sym (drop_all n text past)) tt

-- another byte follows
pub lone_before : (text : List ℕ) (n : ℕ) → n < length text → is_escaped (slice_index text n) ≡ false → IsLone (drop n text)
lone_before text n inside plain =
    subst IsLone (sym (drop_more text n 0 inside)) (λ escaped. both_ways (is_escaped (slice_index text n)) plain escaped)

-- how a text of symbols goes on
pub record PlainFront (text : List ℕ) : Type 0 where
  pub other : slice_index text 0 ≢ 0x5C
  pub rest : IsTypeText (drop 1 text)

pub record EscapeFront (text : List ℕ) : Type 0 where
  pub here : slice_index text 0 ≡ 0x5C
  pub two : 1 < length text
  pub escaped : is_escaped (slice_index text 1) ≡ true
  pub rest : IsTypeText (drop 2 text)

pub fronts : (text : List ℕ) → 0 < length text → IsTypeText text → PlainFront text ⊎ EscapeFront text
fronts text some ([], spells) = absurd (omega (arith, ap length spells))
fronts text some (s ∷ symbols, spells) = elim (forms s) [
  | inl p ↦
      let bytes : text ≡ p.byte ∷ type_text symbols = sym spells ∙ ap (λ l. l ++ type_text symbols) p.text in
      inl (subst PlainFront (sym bytes) (record { other = p.other; rest = (symbols, refl) }))
  | inr p ↦
      let bytes : text ≡ 0x5C ∷ p.byte ∷ type_text symbols = sym spells ∙ ap (λ l. l ++ type_text symbols) p.text in
      inr (subst EscapeFront (sym bytes) (record { here = refl; two = omega arith; escaped = p.escaped; rest = (symbols, refl) }))
]

pub after_escape : (text : List ℕ) → 0 < length text → IsTypeText text → slice_index text 0 ≡ 0x5C → EscapeFront text
after_escape text some spelled here = elim (fronts text some spelled) [ inl plain ↦ absurd (plain.other here) | inr escape ↦ escape ]

pub after_plain : (text : List ℕ) → 0 < length text → IsTypeText text → slice_index text 0 ≢ 0x5C → IsTypeText (take (length text - 1) (drop 1 text))
after_plain text some spelled other = subst IsTypeText (sym (take_rest text 1)) (elim (fronts text some spelled) [ inl plain ↦ plain.rest | inr escape ↦ absurd (other escape.here) ])

-- what the search for a lone `\` says of a text
pub answers_text_ok : (text : List ℕ) (found : Option ℕ) (result : Bool) → MatchOption found (IsTypeText text) (λ at. IsLoneAt text at) → is_some found ≡ not result → (IsTrue result ↔ IsGood text) × (IsTrue result ↔ IsTypeText text)
answers_text_ok text None true spelled is = ((λ _. type_text_is_good text spelled, λ _. refl), (λ _. spelled, λ _. refl))
answers_text_ok text None false spelled is = cc
answers_text_ok text (Some at) true lone is = cc
answers_text_ok text (Some at) false lone is = ((λ h. absurd (cc), λ good. absurd (good at lone)), (λ h. absurd (cc), λ spelled. absurd (type_text_is_good text spelled at lone)))

pub escape_rest : (text : List ℕ) → EscapeFront text → IsTypeText (take (length text - 2) (drop 2 text))
escape_rest text escape = subst IsTypeText (sym (take_rest text 2)) escape.rest

-- the escape, its byte, and what follows
pub escape_joins : (text : List ℕ) → EscapeFront text → text ≡ text_of_symbol (Byte (slice_index text 1)) ++ take (length text - 2) (drop 2 text)
escape_joins text escape =
    let b = slice_index text 1 in
    let two = escape.two in
    drop_more text 0 0 (omega arith)
    ∙ ap₂ (λ x l. x ∷ l) escape.here (drop_more text 1 0 two)
    ∙ ap (λ l. 0x5C ∷ b ∷ l) (sym (take_rest text 2))
    ∙ ap (λ l. l ++ take (length text - 2) (drop 2 text)) (sym (escaped_text b true escape.escaped))

-- reading a text from the front, symbols before and bytes left
read_on : (front : List Symbol) (back : List ℕ) (text : List ℕ) → text ≡ type_text front ++ back → IsTypeText text ⊎ ((at : ℕ) × IsLoneAt text at)
read_on front [] text is = inl (front, sym (append-nil (type_text front)) ∙ sym is)
read_on front (b ∷ []) text is = elim (cases_eq b 0x5C) [
  | inl here ↦ inr (length (type_text front), record { front = front; back = []; cut = is ∙ ap (λ n. type_text front ++ (n ∷ [])) here; place = refl; lone = tt })
  | inr other ↦ inl (front ++ plain_symbol b ∷ [], type_text_push front (plain_symbol b) ∙ ap (λ l. type_text front ++ l) (byte_symbol b other) ∙ sym is)
]
read_on front (b ∷ d ∷ rest) text is = elim (cases_eq b 0x5C) [
  | inl here ↦ elim (cases_Bool (is_escaped d)) [
    | inl escaped ↦
        let pushed : type_text (front ++ Byte d ∷ []) ≡ type_text front ++ (0x5C ∷ d ∷ []) = type_text_push front (Byte d) ∙ ap (λ l. type_text front ++ l) (escaped_text d true escaped) in
        read_on (front ++ Byte d ∷ []) rest text
        (is ∙ ap (λ n. type_text front ++ (n ∷ d ∷ rest)) here ∙ sym (append_assoc (type_text front) (0x5C ∷ d ∷ []) rest) ∙ ap (λ l. l ++ rest) (sym pushed))
    | inr plain ↦ inr (
      length (type_text front),
      record {
        front = front;
        back = d ∷ rest;
        cut = is ∙ ap (λ n. type_text front ++ (n ∷ d ∷ rest)) here;
        place = refl;
        lone = λ escaped. both_ways (is_escaped d) plain escaped;
      },
    )
  ]
  | inr other ↦
      let pushed : type_text (front ++ plain_symbol b ∷ []) ≡ type_text front ++ (b ∷ []) = type_text_push front (plain_symbol b) ∙ ap (λ l. type_text front ++ l) (byte_symbol b other) in
      read_on (front ++ plain_symbol b ∷ []) (d ∷ rest) text
      (is ∙ sym (append_assoc (type_text front) (b ∷ []) (d ∷ rest)) ∙ ap (λ l. l ++ (d ∷ rest)) (sym pushed))
]

pub good_is_type_text : (text : List ℕ) → IsGood text ↔ IsTypeText text
good_is_type_text text = (
  λ good. elim (read_on [] text text refl) [ inl spelled ↦ spelled | inr lone ↦ absurd (good lone.0 lone.1) ],
  type_text_is_good text,
)

-- a symbol has a byte
pub symbol_longer : (s : Symbol) (rest : List ℕ) → length rest < length (text_of_symbol s ++ rest)
symbol_longer s rest = elim (forms s) [
  | inl p ↦ let e : text_of_symbol s ++ rest ≡ p.byte ∷ rest = ap (λ l. l ++ rest) p.text in omega (arith, ap length e)
  | inr p ↦ let e : text_of_symbol s ++ rest ≡ 0x5C ∷ p.byte ∷ rest = ap (λ l. l ++ rest) p.text in omega (arith, ap length e)
]

-- what stands behind the first symbol of a text is a text
pub rest_spelled : (s : Symbol) (text rest : List ℕ) → text ≡ text_of_symbol s ++ rest → IsTypeText text → IsTypeText rest
rest_spelled s text rest cut ([], spells) = absurd (some_byte s rest (sym (spells ∙ cut)))
rest_spelled s text rest cut (t ∷ symbols, spells) = (symbols, (first_same t s (type_text symbols) rest (spells ∙ cut)).1)

-- a text without a first symbol is empty
pub nothing_left : (text : List ℕ) → ((s : Symbol) (rest : List ℕ) → text ≢ text_of_symbol s ++ rest) → IsTypeText text → text ≡ []
nothing_left text none ([], spells) = sym spells
nothing_left text none (s ∷ symbols, spells) = absurd (none s (type_text symbols) (sym spells))
