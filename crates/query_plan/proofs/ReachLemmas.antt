-- A text may stand only where one of its delimiters does, behind a symbol of the byte before it or a slot.
use Rattle.std.proofs.Common.{◌≡◌, ℕ, suc, ◌+◌, ◌-◌, ◌<◌, ◌⊎◌, true, false, cond, List, [], ◌∷◌, ◌++◌, length, take, drop, refl, sym, ◌∙◌, ap, subst, arith, inl, inr, append_assoc, take-append-drop}
use Rattle.std.specs.Prelude.{IsTrue, IsFalse, slice_index}
use Rattle.std.proofs.lemmas.Bool.{cases_Bool}
use Rattle.std.proofs.lemmas.Grind.{flat_map-append}
use Rattle.std.proofs.lemmas.List.{drop_more, length-append}
use Rattle.token_rules.specs.Tokens.{is_token_byte, IsDelimiter}
use Rattle.logtype_text.specs.declared.symbols.Kind.{Kind}
use Rattle.logtype_text.specs.declared.symbols.Kind.TheVariants.{Whole, Word, Decimal}
use Rattle.logtype_text.specs.declared.symbols.Symbol.{Symbol}
use Rattle.logtype_text.specs.declared.symbols.Symbol.TheVariants.{Byte, Slot}
use Rattle.logtype_text.specs.TypeText.{is_escaped, text_of_symbol, type_text}
use Rattle.query_plan.specs.Slots.{MayBegin, MayStand, after_token}
use Rattle.query_plan.specs.StepsStanding.{IsMissedBehind, IsPlainDelimiter, IsReached}
use Rattle.query_plan.proofs.SlotLemmas.{token_off, token_over}
use Rattle.query_plan.proofs.StandingLemmas.{ahead, ahead_is, plain_text, seam}

-- the byte before may be of this symbol
abbrev IsLast : ℕ → Symbol → Type 0
IsLast c (Byte e) = c ≡ e
IsLast c (Slot kind) = Unit {0}

-- such a symbol, then the byte, with which may begin the byte and what stands behind it
record Behind (c d : ℕ) (back : List ℕ) (symbols : List Symbol) : Type 0 where
  pub before : List Symbol
  pub last : Symbol
  pub after : List Symbol
  pub cut : symbols ≡ before ++ (last ∷ Byte d ∷ after)
  pub is_last : IsLast c last
  pub begins : MayBegin (d ∷ back) (Byte d ∷ after)

later : (c d : ℕ) (back : List ℕ) (s : Symbol) (symbols : List Symbol) → Behind c d back symbols → Behind c d back (s ∷ symbols)
later c d back s symbols h =
    record { before = s ∷ h.before; last = h.last; after = h.after; cut = ap (λ x. s ∷ x) h.cut; is_last = h.is_last; begins = h.begins }

-- ---- where a text may stand

next : (c d : ℕ) (back : List ℕ) → IsDelimiter d → (s : Symbol) → IsLast c s → (symbols : List Symbol) → MayBegin (d ∷ back) symbols → Behind c d back (s ∷ symbols)
next c d back is s last [] m = absurd m
next c d back is s last (Byte e ∷ symbols) m =
    record { before = []; last = s; after = symbols; cut = ap (λ b. s ∷ Byte b ∷ symbols) (sym m.0); is_last = last; begins = (refl, m.1) }
next c d back is s last (Slot kind ∷ symbols) m = let both : true ≡ false = sym m.0 ∙ is in cc

at_last : (c d : ℕ) (back : List ℕ) → IsDelimiter d → (symbols : List Symbol) → MayBegin (c ∷ d ∷ back) symbols → Behind c d back symbols
at_last c d back is [] m = absurd m
at_last c d back is (Byte e ∷ symbols) m = next c d back is (Byte e) m.0 symbols m.1
at_last c d back is (Slot kind ∷ symbols) m = next c d back is (Slot kind) tt symbols (subst (λ x. MayBegin x symbols) (token_over d back is) m.1)

within_last : (c d : ℕ) (back : List ℕ) → IsDelimiter d → (symbols : List Symbol) (kind : Kind) → MayBegin (after_token (c ∷ d ∷ back)) symbols → Behind c d back (Slot kind ∷ symbols)
within_last c d back is symbols kind m = elim (cases_Bool (is_token_byte c)) [
  | inl token ↦
      next c d back is (Slot kind) tt symbols (subst (λ x. MayBegin x symbols) (token_off c (d ∷ back) token ∙ token_over d back is) m)
  | inr delimiter ↦
      later c d back (Slot kind) symbols (at_last c d back is symbols (subst (λ x. MayBegin x symbols) (token_over c (d ∷ back) delimiter) m))
]

-- from the front of a text, and from within a variable
abbrev Fronts : ℕ → ℕ → List ℕ → List ℕ → List Symbol → Type 0
Fronts c d back front symbols =
    (MayBegin (front ++ (c ∷ d ∷ back)) symbols → Behind c d back symbols)
    × ((kind : Kind) → MayBegin (after_token (front ++ (c ∷ d ∷ back))) symbols → Behind c d back (Slot kind ∷ symbols))

past_one : (c d : ℕ) (back : List ℕ) (b : ℕ) (front : List ℕ) → ((symbols : List Symbol) → Fronts c d back front symbols)
    → (symbols : List Symbol) → MayBegin (b ∷ (front ++ (c ∷ d ∷ back))) symbols → Behind c d back symbols
past_one c d back b front f [] m = absurd m
past_one c d back b front f (Byte e ∷ symbols) m = later c d back (Byte e) symbols ((f symbols).0 m.1)
past_one c d back b front f (Slot kind ∷ symbols) m = (f symbols).1 kind m.1

within_one : (c d : ℕ) (back : List ℕ) (b : ℕ) (front : List ℕ) → ((symbols : List Symbol) → Fronts c d back front symbols)
    → (symbols : List Symbol) (kind : Kind) → MayBegin (after_token (b ∷ (front ++ (c ∷ d ∷ back)))) symbols → Behind c d back (Slot kind ∷ symbols)
within_one c d back b front f symbols kind m =
    let w = front ++ (c ∷ d ∷ back) in
    elim (cases_Bool (is_token_byte b)) [
      | inl token ↦ (f symbols).1 kind (subst (λ x. MayBegin x symbols) (token_off b w token) m)
      | inr delimiter ↦
          later c d back (Slot kind) symbols (past_one c d back b front f symbols (subst (λ x. MayBegin x symbols) (token_over b w delimiter) m))
    ]

fronts : (c d : ℕ) (back : List ℕ) → IsDelimiter d → (front : List ℕ) (symbols : List Symbol) → Fronts c d back front symbols
fronts c d back is [] symbols = (at_last c d back is symbols, within_last c d back is symbols)
fronts c d back is (b ∷ front) symbols =
    (past_one c d back b front (fronts c d back is front) symbols, within_one c d back b front (fronts c d back is front) symbols)

stands : (c d : ℕ) (back : List ℕ) → IsDelimiter d → (front : List ℕ) (symbols : List Symbol) → MayStand (front ++ (c ∷ d ∷ back)) symbols → Behind c d back symbols
stands c d back is front [] m = (fronts c d back is front []).0 m
stands c d back is front (s ∷ symbols) (inl m) = (fronts c d back is front (s ∷ symbols)).0 m
stands c d back is front (s ∷ symbols) (inr m) = later c d back s symbols (stands c d back is front symbols m)

-- ---- what stands so in the text of the log type

-- the last byte of such a symbol
record LastByte (c : ℕ) (text : List ℕ) : Type 0 where
  pub others : List ℕ
  pub byte : ℕ
  pub cut : text ≡ others ++ (byte ∷ [])
  pub reaches : (byte ≡ c) ⊎ IsTrue (is_escaped byte)

last_byte : (c : ℕ) (s : Symbol) → IsLast c s → LastByte c (text_of_symbol s)
last_byte c (Byte e) same = elim (cases_Bool (is_escaped e)) [
  | inl escaped ↦
      record { others = 0x5C ∷ []; byte = e; cut = ap (λ t. cond t (0x5C ∷ e ∷ []) (e ∷ [])) escaped; reaches = inr escaped }
  | inr plain ↦ record { others = []; byte = e; cut = plain_text e plain; reaches = inl (sym same) }
]
last_byte c (Slot Whole) same = record { others = []; byte = 0x11; cut = refl; reaches = inr refl }
last_byte c (Slot Word) same = record { others = []; byte = 0x12; cut = refl; reaches = inr refl }
last_byte c (Slot Decimal) same = record { others = []; byte = 0x13; cut = refl; reaches = inr refl }

past_seam : (b : ℕ) (x y : List ℕ) → drop (suc (length x)) (x ++ (b ∷ y)) ≡ y
past_seam b [] y = refl
past_seam b (a ∷ x) y = past_seam b x y

after_seam : (b d : ℕ) (x y : List ℕ) → slice_index (x ++ (b ∷ d ∷ y)) (suc (length x)) ≡ d
after_seam b d [] y = refl
after_seam b d (a ∷ x) y = after_seam b d x y

cut_text : (d : ℕ) (before : List Symbol) (last : Symbol) (after : List Symbol) (c : ℕ) (l : LastByte c (text_of_symbol last)) → IsFalse (is_escaped d)
    → type_text (before ++ (last ∷ Byte d ∷ after)) ≡ (type_text before ++ l.others) ++ (l.byte ∷ d ∷ type_text after)
cut_text d before last after c l plain =
    let z = type_text after in
    flat_map-append text_of_symbol before (last ∷ Byte d ∷ after)
    ∙ ap (λ x. type_text before ++ (text_of_symbol last ++ (x ++ z))) (plain_text d plain)
    ∙ ap (λ x. type_text before ++ (x ++ (d ∷ z))) l.cut
    ∙ ap (λ x. type_text before ++ x) (append_assoc l.others (l.byte ∷ []) (d ∷ z))
    ∙ sym (append_assoc (type_text before) l.others (l.byte ∷ d ∷ z))

not_behind : (c d : ℕ) (back log_type : List ℕ) → IsFalse (is_escaped d) → ((at : ℕ) → IsMissedBehind c d (d ∷ back) log_type at)
    → (symbols : List Symbol) → log_type ≡ type_text symbols → ¬ Behind c d back symbols
not_behind c d back log_type plain missed symbols typed h =
    let l = last_byte c h.last h.is_last in
    let x = type_text h.before ++ l.others in
    let y = type_text h.after in
    let cut : log_type ≡ x ++ (l.byte ∷ d ∷ y) = typed ∙ ap type_text h.cut ∙ cut_text d h.before h.last h.after c l plain in
    let inside : suc (length x) < length log_type = omega (arith, ap length cut, length-append x (l.byte ∷ d ∷ y)) in
    let here : slice_index log_type (suc (length x)) ≡ d = ap (λ t. slice_index t (suc (length x))) cut ∙ after_seam l.byte d x y in
    let before_is : l.byte ≡ slice_index log_type (length x) = sym (ap (λ t. slice_index t (length x)) cut ∙ seam l.byte x (d ∷ y)) in
    let reached : IsReached c log_type (suc (length x)) = subst (λ b. (b ≡ c) ⊎ IsTrue (is_escaped b)) before_is l.reaches in
    let rest : drop (suc (length x)) log_type ≡ type_text (Byte d ∷ h.after) =
    ap (λ t. drop (suc (length x)) t) cut ∙ past_seam l.byte x (d ∷ y) ∙ sym (ap (λ b. b ++ y) (plain_text d plain)) in
    missed (suc (length x)) (inside, here) reached (Byte d ∷ h.after) rest h.begins

-- the text stands nowhere, if what is left from one of its delimiters on begins nowhere behind the byte before it
pub nowhere : (text log_type : List ℕ) (at : ℕ) → 0 < at → at < length text → IsPlainDelimiter (slice_index text at)
    → ((k : ℕ) → IsMissedBehind (slice_index text (at - 1)) (slice_index text at) (ahead text at) log_type k)
    → (symbols : List Symbol) → log_type ≡ type_text symbols → ¬ MayStand text symbols
nowhere text log_type at some inside is missed symbols typed m =
    let c = slice_index text (at - 1) in
    let d = slice_index text at in
    let back = drop (at + 1) text in
    let rest : drop at text ≡ d ∷ back = drop_more text at 0 inside in
    let place : at - 1 + 1 ≡ at = omega (arith, some) in
    let longer : drop (at - 1) text ≡ c ∷ d ∷ back =
    drop_more text (at - 1) 0 (omega (arith, some, inside)) ∙ ap (λ n. c ∷ drop n text) place ∙ ap (λ x. c ∷ x) rest in
    let cut : text ≡ take (at - 1) text ++ (c ∷ d ∷ back) = sym (take-append-drop (at - 1) text) ∙ ap (λ x. take (at - 1) text ++ x) longer in
    not_behind c d back log_type is.1 (λ k. subst (λ w. IsMissedBehind c d w log_type k) (ahead_is text at ∙ rest) (missed k)) symbols typed
    (stands c d back is.0 (take (at - 1) text) symbols (subst (λ w. MayStand w symbols) cut m))
