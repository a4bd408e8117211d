-- A text may stand only where one of its delimiters does, which the text of a log type holds as it is.
use Rattle.std.proofs.Common.{◌≡◌, ℕ, zero, suc, ◌+◌, ◌-◌, ◌<◌, ◌≤◌, Bool, true, false, cond, Option, None, Some, List, [], ◌∷◌, ◌++◌, length, take, drop, refl, sym, ◌∙◌, ap, subst, arith, inl, inr, length-take-le}
use Rattle.std.specs.Prelude.{◌↔◌, All, IsTrue, IsFalse, IfSome, unwrap_or, leb, slice_index, slice_range}
use Rattle.std.proofs.Math.Logic.{⊎_elim}
use Rattle.std.proofs.Math.Seq.{drop-append_seam}
use Rattle.std.proofs.lemmas.Bool.{cases_Bool, eq-eqb, eqb-true}
use Rattle.std.proofs.lemmas.Bool.Decides.{leb_tells}
use Rattle.std.proofs.lemmas.Grind.{flat_map-append}
use Rattle.std.proofs.lemmas.List.{get_or-drop, get_or-take, length-append, length-drop}
use Rattle.std.proofs.lemmas.List.Elements.{All-get_or}
use Rattle.std.proofs.lemmas.Slice.{between_to_end}
use Rattle.memchr.specs.Find.{IsFirstByte, Nowhere, Passes, is_byte}
use Rattle.token_rules.specs.Tokens.{is_token_byte, IsDelimiter}
use Rattle.logtype_text.specs.declared.symbols.Symbol.{Symbol}
use Rattle.logtype_text.specs.declared.symbols.Symbol.TheVariants.{Byte, Slot}
use Rattle.logtype_text.specs.TypeText.{is_escaped, text_of_symbol, type_text}
use Rattle.logtype_text.proofs.TextLemmas.{forms}
use Rattle.query_plan.specs.Slots.{MayBegin, MayStand, after_token}
use Rattle.query_plan.specs.StepsStanding.{BeginsAt, IsMissed, IsPassed, IsPlainDelimiter, StandsAt}
use Rattle.query_plan.proofs.SlotLemmas.{stands_here, token_off, token_over}

-- a text behind so many bytes, as the code has it
abbrev pub ahead : List ℕ → ℕ → List ℕ
ahead log_type from = slice_range log_type from (length log_type)

pub ahead_is : (log_type : List ℕ) (from : ℕ) → ahead log_type from ≡ drop from log_type
ahead_is log_type from = between_to_end log_type from (length log_type) (omega arith)

-- ---- where a text may stand, its delimiters are constant bytes

-- one of the symbols is the byte, and with it may begin the byte and what stands behind it
record Holds (d : ℕ) (back : List ℕ) (symbols : List Symbol) : Type 0 where
  pub before : List Symbol
  pub after : List Symbol
  pub cut : symbols ≡ before ++ (Byte d ∷ after)
  pub begins : MayBegin (d ∷ back) (Byte d ∷ after)

later : (d : ℕ) (back : List ℕ) (s : Symbol) (symbols : List Symbol) → Holds d back symbols → Holds d back (s ∷ symbols)
later d back s symbols h =
    record { before = s ∷ h.before; after = h.after; cut = ap (λ x. s ∷ x) h.cut; begins = h.begins }

at_delimiter : (d : ℕ) (back : List ℕ) → IsDelimiter d → (symbols : List Symbol) → MayBegin (d ∷ back) symbols → Holds d back symbols
at_delimiter d back is [] m = absurd m
at_delimiter d back is (Byte c ∷ symbols) m =
    record { before = []; after = symbols; cut = ap (λ b. Byte b ∷ symbols) (sym m.0); begins = (refl, m.1) }
at_delimiter d back is (Slot kind ∷ symbols) m = let both : true ≡ false = sym m.0 ∙ is in cc

-- from the front of a text, and from within a variable
abbrev Fronts : ℕ → List ℕ → List ℕ → List Symbol → Type 0
Fronts d back front symbols =
    (MayBegin (front ++ (d ∷ back)) symbols → Holds d back symbols) × (MayBegin (after_token (front ++ (d ∷ back))) symbols → Holds d back symbols)

past_one : (d : ℕ) (back : List ℕ) (b : ℕ) (front : List ℕ) → ((symbols : List Symbol) → Fronts d back front symbols)
    → (symbols : List Symbol) → MayBegin (b ∷ (front ++ (d ∷ back))) symbols → Holds d back symbols
past_one d back b front f [] m = absurd m
past_one d back b front f (Byte c ∷ symbols) m = later d back (Byte c) symbols ((f symbols).0 m.1)
past_one d back b front f (Slot kind ∷ symbols) m = later d back (Slot kind) symbols ((f symbols).1 m.1)

within_one : (d : ℕ) (back : List ℕ) (b : ℕ) (front : List ℕ) → ((symbols : List Symbol) → Fronts d back front symbols)
    → (symbols : List Symbol) → MayBegin (after_token (b ∷ (front ++ (d ∷ back)))) symbols → Holds d back symbols
within_one d back b front f symbols m =
    let w = front ++ (d ∷ back) in
    elim (cases_Bool (is_token_byte b)) [
      | inl token ↦ (f symbols).1 (subst (λ x. MayBegin x symbols) (token_off b w token) m)
      | inr delimiter ↦ past_one d back b front f symbols (subst (λ x. MayBegin x symbols) (token_over b w delimiter) m)
    ]

fronts : (d : ℕ) (back : List ℕ) → IsDelimiter d → (front : List ℕ) (symbols : List Symbol) → Fronts d back front symbols
fronts d back is [] symbols =
    (at_delimiter d back is symbols, λ m. at_delimiter d back is symbols (subst (λ x. MayBegin x symbols) (token_over d back is) m))
fronts d back is (b ∷ front) symbols =
    (past_one d back b front (fronts d back is front) symbols, within_one d back b front (fronts d back is front) symbols)

stands : (d : ℕ) (back : List ℕ) → IsDelimiter d → (front : List ℕ) (symbols : List Symbol) → MayStand (front ++ (d ∷ back)) symbols → Holds d back symbols
stands d back is front [] m = (fronts d back is front []).0 m
stands d back is front (s ∷ symbols) (inl m) = (fronts d back is front (s ∷ symbols)).0 m
stands d back is front (s ∷ symbols) (inr m) = later d back s symbols (stands d back is front symbols m)

-- ---- and stand so in the text of the log type

pub plain_text : (d : ℕ) → IsFalse (is_escaped d) → text_of_symbol (Byte d) ≡ d ∷ []
plain_text d plain = ap (λ t. cond t (0x5C ∷ d ∷ []) (d ∷ [])) plain

cut_text : (d : ℕ) (before after : List Symbol) → IsFalse (is_escaped d) → type_text (before ++ (Byte d ∷ after)) ≡ type_text before ++ (d ∷ type_text after)
cut_text d before after plain =
    flat_map-append text_of_symbol before (Byte d ∷ after) ∙ ap (λ x. type_text before ++ (x ++ type_text after)) (plain_text d plain)

pub seam : (d : ℕ) (x y : List ℕ) → slice_index (x ++ (d ∷ y)) (length x) ≡ d
seam d [] y = refl
seam d (b ∷ x) y = seam d x y

not_held : (d : ℕ) (back log_type : List ℕ) → IsFalse (is_escaped d) → ((at : ℕ) → IsMissed d (d ∷ back) log_type at)
    → (symbols : List Symbol) → log_type ≡ type_text symbols → ¬ Holds d back symbols
not_held d back log_type plain missed symbols typed h =
    let x = type_text h.before in
    let y = type_text h.after in
    let cut : log_type ≡ x ++ (d ∷ y) = typed ∙ ap type_text h.cut ∙ cut_text d h.before h.after plain in
    let inside : length x < length log_type = omega (arith, ap length cut, length-append x (d ∷ y)) in
    let here : slice_index log_type (length x) ≡ d = ap (λ l. slice_index l (length x)) cut ∙ seam d x y in
    let rest : drop (length x) log_type ≡ type_text (Byte d ∷ h.after) =
    ap (λ l. drop (length x) l) cut ∙ drop-append_seam x (d ∷ y) ∙ sym (ap (λ b. b ++ y) (plain_text d plain)) in
    missed (length x) (inside, here) (Byte d ∷ h.after) rest h.begins

-- ---- where the byte stands in the text of a log type, symbols begin

behind_escape : (d : ℕ) (w : List ℕ) → IsFalse (is_escaped d) → (rest : List ℕ) (P : Type 0) → ((m : ℕ) → StandsAt d rest m → BeginsAt w rest m → P)
    → (b : ℕ) → is_escaped b ≡ true → (n : ℕ) → StandsAt d (0x5C ∷ b ∷ rest) (suc n) → BeginsAt w (0x5C ∷ b ∷ rest) (suc n) → P
behind_escape d w plain rest P next b escaped zero here f =
    let same : b ≡ d = here.1 in
    let both : true ≡ false = sym escaped ∙ ap is_escaped same ∙ plain in
    cc
behind_escape d w plain rest P next b escaped (suc m) here f = next m (omega (arith, here.0), here.1) f

stands_from : (d : ℕ) (w : List ℕ) → IsFalse (is_escaped d) → (symbols : List Symbol) (log_type : List ℕ) (at : ℕ)
    → log_type ≡ type_text symbols → StandsAt d log_type at → BeginsAt w log_type at → MayStand w symbols
stands_from d w plain symbols log_type zero typed here f = stands_here w symbols (f symbols typed)
stands_from d w plain [] log_type (suc n) typed here f =
    let none : length log_type ≡ 0 = ap length typed in absurd (omega (arith, here.0, none))
stands_from d w plain (s ∷ symbols) log_type (suc n) typed here f =
    let rest = type_text symbols in
    elim (forms s) [
      | inl p ↦
          let cut : log_type ≡ p.byte ∷ rest = typed ∙ ap (λ x. x ++ rest) p.text in
          let at : StandsAt d (p.byte ∷ rest) (suc n) = subst (λ l. StandsAt d l (suc n)) cut here in
          let g : BeginsAt w (p.byte ∷ rest) (suc n) = subst (λ l. BeginsAt w l (suc n)) cut f in
          inr (stands_from d w plain symbols rest n refl (omega (arith, at.0), at.1) g)
      | inr q ↦
          let cut : log_type ≡ 0x5C ∷ q.byte ∷ rest = typed ∙ ap (λ x. x ++ rest) q.text in
          inr (behind_escape d w plain rest (MayStand w symbols) (λ m there g. stands_from d w plain symbols rest m refl there g) q.byte q.escaped n
          (subst (λ l. StandsAt d l (suc n)) cut here) (subst (λ l. BeginsAt w l (suc n)) cut f))
    ]

-- ---- the search

-- a byte of it in the whole
ahead_at : (log_type : List ℕ) (from k : ℕ) → slice_index (ahead log_type from) k ≡ slice_index log_type (from + k)
ahead_at log_type from k = ap (λ l. slice_index l k) (ahead_is log_type from) ∙ get_or-drop from log_type k 0

length_ahead : (log_type : List ℕ) (from : ℕ) → length (ahead log_type from) ≡ length log_type - from
length_ahead log_type from = ap length (ahead_is log_type from) ∙ length-drop from log_type

pub found_at : (d : ℕ) (log_type : List ℕ) (from k : ℕ) → from ≤ length log_type → IsFirstByte (is_byte d) (ahead log_type from) (Some k) → StandsAt d log_type (from + k)
found_at d log_type from k within found =
    let inside : from + k < length log_type = omega (arith, within, found.0.high, length_ahead log_type from) in
    (inside, sym (ahead_at log_type from k) ∙ eqb-true (slice_index (ahead log_type from) k) d found.1)

-- something is so wherever the byte stands
abbrev Misses : ℕ → (ℕ → Type 0) → List ℕ → ℕ → Type 0
Misses d Q log_type at = StandsAt d log_type at → Q at

-- it is so up to the next place with the byte
missed_ahead : (d : ℕ) (Q : ℕ → Type 0) (log_type : List ℕ) (from to : ℕ) → ((at : ℕ) → at < from → Misses d Q log_type at)
    → Nowhere (Passes (is_byte d) (ahead log_type from)) 0 to → (at : ℕ) → at < from + to → Misses d Q log_type at
missed_ahead d Q log_type from to before none at below here =
    ⊎_elim
    (λ (h : (leb from at ≡ true) × (from ≤ at)).
    let place : from + (at - from) ≡ at = omega (arith, h.1) in
    let near : at - from < to = omega (arith, below, h.1) in
    let is : slice_index (ahead log_type from) (at - from) ≡ d = ahead_at log_type from (at - from) ∙ ap (λ n. slice_index log_type n) place ∙ here.1 in
    absurd (none (at - from) (omega arith) near (eq-eqb (slice_index (ahead log_type from) (at - from)) d is)))
    (λ (h : (leb from at ≡ false) × (at < from)). before at h.1 here)
    (leb_tells from at)

-- and up to behind that one, if it is so there
pub missed_more : (d : ℕ) (Q : ℕ → Type 0) (log_type : List ℕ) (from k : ℕ) → from ≤ length log_type → ((at : ℕ) → at < from → Misses d Q log_type at)
    → IsFirstByte (is_byte d) (ahead log_type from) (Some k) → Misses d Q log_type (from + k) → (at : ℕ) → at < from + k + 1 → Misses d Q log_type at
missed_more d Q log_type from k within before found here at below =
    ⊎_elim
    (λ (h : (leb (from + k) at ≡ true) × (from + k ≤ at)).
    let place : from + k ≡ at = omega (arith, h.1, below) in
    subst (λ n. Misses d Q log_type n) place here)
    (λ (h : (leb (from + k) at ≡ false) × (at < from + k)). missed_ahead d Q log_type from k before found.0.before at h.1)
    (leb_tells (from + k) at)

-- and everywhere, if there is no further one
pub missed_rest : (d : ℕ) (Q : ℕ → Type 0) (log_type : List ℕ) (from : ℕ) → from ≤ length log_type → ((at : ℕ) → at < from → Misses d Q log_type at)
    → IsFirstByte (is_byte d) (ahead log_type from) None → (at : ℕ) → Misses d Q log_type at
missed_rest d Q log_type from within before none at here =
    let size = length (ahead log_type from) in
    let below : at < from + size = omega (arith, within, here.0, length_ahead log_type from) in
    missed_ahead d Q log_type from size before none at below here

-- ---- what is passed over

-- so many bytes at the front of a list, and so many of these
abbrev front_of : List ℕ → ℕ → ℕ → List ℕ
front_of list size plain = take plain (take size list)

front_at : (list : List ℕ) (size plain k : ℕ) → size ≤ length list → plain ≤ length (take size list) → k < plain → slice_index (front_of list size plain) k ≡ slice_index list k
front_at list size plain k inside within below =
    let near : k < size = omega (arith, below, within, length-take-le size list inside) in
    get_or-take plain (take size list) k 0 below ∙ get_or-take size list k 0 near

passed_up_to : (first : ℕ) (list : List ℕ) (size plain to : ℕ) → size ≤ length list → plain ≤ length (take size list)
    → All (λ b. is_escaped b ≡ false) (front_of list size plain) → to ≤ length (front_of list size plain)
    → Nowhere (Passes (is_byte first) (front_of list size plain)) 0 to → IsPassed first list to
passed_up_to first list size plain to inside within all near none k below =
    let front = front_of list size plain in
    let long : length front ≡ plain = length-take-le plain (take size list) within in
    let same : slice_index front k ≡ slice_index list k = front_at list size plain k inside within (omega (arith, below, near, long)) in (
      ap is_escaped (sym same) ∙ All-get_or (λ b. is_escaped b ≡ false) front k 0 (omega (arith, below, near)) all,
      λ is. none k (omega arith) below (eq-eqb (slice_index front k) first (same ∙ is)),
    )

pub next_passed : (first : ℕ) (list : List ℕ) (size plain : ℕ) → size ≤ length list → plain ≤ length (take size list)
    → All (λ b. is_escaped b ≡ false) (front_of list size plain) → (r : Option ℕ) → IsFirstByte (is_byte first) (front_of list size plain) r
    → IsPassed first list (unwrap_or r (length (front_of list size plain)))
next_passed first list size plain inside within all None none =
    passed_up_to first list size plain (length (front_of list size plain)) inside within all (omega arith) none
next_passed first list size plain inside within all (Some at) found =
    passed_up_to first list size plain at inside within all (omega (arith, found.0.high)) found.0.before

-- a text may not begin where the code says so
pub refused : (answer : Bool) (P : Type 0) → answer ≡ false → (P → answer ≡ true) → ¬ P
refused answer P false_is says p = let both : true ≡ false = sym (says p) ∙ false_is in cc

space_is : IsPlainDelimiter 0x20
unfolding is_token_byte
space_is = (refl, refl)

-- a space is a delimiter that log types store as it is
pub space_at : (text : List ℕ) (r : Option ℕ) → IsFirstByte (is_byte 0x20) text r → IfSome r (λ at. (at < length text) × IsPlainDelimiter (slice_index text at))
space_at text None none = tt
space_at text (Some at) found =
    let is : slice_index text at ≡ 0x20 = eqb-true (slice_index text at) 0x20 found.1 in
    (found.0.high, subst IsPlainDelimiter (sym is) space_is)

-- ---- both together

-- the text may stand exactly where a search for its first byte finds that it may begin
pub stands_there : (d : ℕ) (text log_type behind : List ℕ) → text ≡ d ∷ behind → IsPlainDelimiter d → (answer : Bool)
    → (IsTrue answer → (k : ℕ) × StandsAt d log_type k × BeginsAt text log_type k) → (IsFalse answer → (k : ℕ) → IsMissed d text log_type k)
    → (symbols : List Symbol) → log_type ≡ type_text symbols → IsTrue answer ↔ MayStand text symbols
stands_there d text log_type behind cut is true found missed symbols typed =
    let f = found refl in (λ yes. stands_from d text is.1 symbols log_type f.0 typed f.1 f.2, λ m. refl)
stands_there d text log_type behind cut is false found missed symbols typed =
    let never : ¬ Holds d behind symbols =
    not_held d behind log_type is.1 (λ k. subst (λ w. IsMissed d w log_type k) cut (missed refl k)) symbols typed in
    (λ (yes : false ≡ true). cc, λ m. absurd (never (stands d behind is.0 [] symbols (subst (λ w. MayStand w symbols) cut m))))
