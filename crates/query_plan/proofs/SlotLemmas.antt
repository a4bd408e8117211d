-- A text that stands in a body may stand in the body's log type.
use Rattle.std.proofs.Common.{◌≡◌, ℕ, zero, suc, ◌≤◌, cond, List, [], ◌∷◌, ◌++◌, length, drop, map, refl, sym, ◌∙◌, ap, subst, arith, inl, inr}
use Rattle.std.specs.Prelude.{◌↔◌, ◌≢◌, IsTrue, Option, None}
use Rattle.token_rules.specs.Tokens.{is_token_byte, IsDelimiter}
use Rattle.logtype_text.specs.declared.symbols.Kind.{Kind}
use Rattle.logtype_text.specs.declared.symbols.Symbol.{Symbol}
use Rattle.logtype_text.specs.declared.symbols.Symbol.TheVariants.{Byte, Slot}
use Rattle.logtype_text.specs.Cut.{PartsAreCut, plains}
use Rattle.logtype_text.specs.Parts.{Part, Constant, symbol_of}
use Rattle.logtype_text.specs.TypeText.{text_of_symbol, type_text}
use Rattle.logtype_text.proofs.TextLemmas.{first_same, some_byte}
use Rattle.wild_match.specs.declared.pattern.Item.TheVariants.{Many}
use Rattle.query_plan.specs.Laws.{chunk_text}
use Rattle.query_plan.specs.Needs.{around}
use Rattle.query_plan.specs.Pieces.{IsInner, IsSomeInner, bytes}
use Rattle.query_plan.specs.Readings.{Breaks}
use Rattle.query_plan.specs.Slots.{ChunksMayStand, FrontsBegin, MayBegin, MayStand, TextsStand, after_token}
use Rattle.query_plan.specs.StepsStanding.{IsPassed}
use Rattle.query_plan.proofs.MatchLemmas.{Steps, drops, takes, steps}
use Rattle.query_plan.proofs.CompleteLemmas.{Symbols, none, delimiter, constant, variable}
use Rattle.query_plan.proofs.ChunkLemmas.{chunks_brought, front_run}
use Rattle.query_plan.proofs.PartsLemmas.{symbols_of}
use Rattle.query_plan.proofs.TokenLemmas.{inner_of}

-- ---- a text at the front

-- what a list of symbols may begin with, for the fronts of what they stand for
abbrev Fronts : List ℕ → List ℕ → List Symbol → Type 0
Fronts behind s symbols = (u : List ℕ) → s ≡ u ++ behind → MayBegin u symbols

-- behind constant bytes
plain_fronts : (behind s : List ℕ) (parts : List Part) → Fronts behind s (map symbol_of parts) → (v : List ℕ) → Fronts behind (v ++ s) (map symbol_of (plains v parts))
plain_fronts behind s parts f [] u e = f u e
plain_fronts behind s parts f (c ∷ v) [] e = tt
plain_fronts behind s parts f (c ∷ v) (b ∷ u) e = (cc (e), plain_fronts behind s parts f v u (cc (e)))

pub token_off : (b : ℕ) (w : List ℕ) → IsTrue (is_token_byte b) → after_token (b ∷ w) ≡ after_token w
token_off b w is = ap (λ t. cond t (after_token w) (b ∷ w)) is

pub token_over : (b : ℕ) (w : List ℕ) → IsDelimiter b → after_token (b ∷ w) ≡ b ∷ w
token_over b w is = ap (λ t. cond t (after_token w) (b ∷ w)) is

-- within a variable, whose bytes these are
inside : (behind s : List ℕ) (symbols : List Symbol) → Breaks s → Fronts behind s symbols → (v : List ℕ) → IsInner v → (u : List ℕ) → v ++ s ≡ u ++ behind → MayBegin (after_token u) symbols
inside behind s symbols breaks f v i [] e = tt
inside behind [] symbols breaks f [] i (b ∷ u) e = absurd (cc (e))
inside behind (d ∷ s) symbols breaks f [] i (b ∷ u) e =
    let same : d ≡ b = cc (e) in
    subst (λ t. MayBegin t symbols) (sym (token_over b u (subst IsDelimiter same breaks))) (f (b ∷ u) e)
inside behind s symbols breaks f (c ∷ v) i (b ∷ u) e =
    let same : c ≡ b = cc (e) in
    subst (λ t. MayBegin t symbols) (sym (token_off b u (subst (λ x. IsTrue (is_token_byte x)) same i.0))) (inside behind s symbols breaks f v i.1 u (cc (e)))

-- with a variable, or bytes behind its first
held_fronts : (behind s : List ℕ) (kind : Kind) (symbols : List Symbol) → Breaks s → Fronts behind s symbols → (c : ℕ) (v : List ℕ) → IsInner (c ∷ v) → Fronts behind ((c ∷ v) ++ s) (Slot kind ∷ symbols)
held_fronts behind s kind symbols breaks f c v i [] e = tt
held_fronts behind s kind symbols breaks f c v i (b ∷ u) e =
    let same : c ≡ b = cc (e) in
    (subst (λ x. IsTrue (is_token_byte x)) same i.0, inside behind s symbols breaks f v i.1 u (cc (e)))

variable_fronts : (behind s : List ℕ) (kind : Kind) (symbols : List Symbol) → Breaks s → Fronts behind s symbols → (w : List ℕ) → IsSomeInner w → Fronts behind (w ++ s) (Slot kind ∷ symbols)
variable_fronts behind s kind symbols breaks f [] i u e = absurd i
variable_fronts behind s kind symbols breaks f (c ∷ v) i u e = held_fronts behind s kind symbols breaks f c v i u e

fronts : (behind : List ℕ) {e : Option ℕ} {s : List ℕ} {parts : List Part} → Symbols e s parts → Fronts behind s (map symbol_of parts)
fronts behind none [] e = tt
fronts behind none (b ∷ u) e = absurd (cc (e))
fronts behind (delimiter is n) [] e = tt
fronts behind (delimiter is n) (b ∷ u) e = (cc (e), fronts behind n u (cc (e)))
fronts behind (constant {s = s} {parts = parts} w k breaks is n) u e = plain_fronts behind s parts (fronts behind n) w u e
fronts behind (variable {s = s} {parts = parts} w kind k breaks is n) u e = variable_fronts behind s kind (map symbol_of parts) breaks (fronts behind n) w k u e

pub fronts_begin : PartsAreCut → FrontsBegin
fronts_begin law w behind body parts are e = fronts behind (symbols_of law body parts are) w e

-- ---- a text anywhere

-- what symbols may begin with, whatever stands behind
abbrev Begins : List ℕ → List Symbol → Type 0
Begins s symbols = (behind : List ℕ) → Fronts behind s symbols

first : (w s : List ℕ) (symbols : List Symbol) → Begins s symbols → Steps (bytes w (Many ∷ [])) s → MayBegin w symbols
first w s symbols f m = let r = front_run w s m in f r.rest w r.joins

plain_stands : (w s : List ℕ) (parts : List Part) → Begins s (map symbol_of parts) → (Steps (around w) s → MayStand w (map symbol_of parts))
    → (v : List ℕ) → Steps (around w) (v ++ s) → MayStand w (map symbol_of (plains v parts))
plain_stands w s parts f g [] m = g m
plain_stands w s parts f g (c ∷ v) (takes m) = inr (plain_stands w s parts f g v m)
plain_stands w s parts f g (c ∷ v) (drops m) =
    inl (first w ((c ∷ v) ++ s) (map symbol_of (plains (c ∷ v) parts)) (λ behind. plain_fronts behind s parts (f behind) (c ∷ v)) m)

variable_stands : (w s : List ℕ) (kind : Kind) (symbols : List Symbol) → Breaks s → Begins s symbols → (Steps (around w) s → MayStand w symbols)
    → (v : List ℕ) → IsInner v → Steps (around w) (v ++ s) → MayStand w (Slot kind ∷ symbols)
variable_stands w s kind symbols breaks f g [] i m = inr (g m)
variable_stands w s kind symbols breaks f g (c ∷ v) i (takes m) = variable_stands w s kind symbols breaks f g v i.1 m
variable_stands w s kind symbols breaks f g (c ∷ v) i (drops m) =
    inl (first w ((c ∷ v) ++ s) (Slot kind ∷ symbols) (λ behind. held_fronts behind s kind symbols breaks (f behind) c v i) m)

stands : (w : List ℕ) {e : Option ℕ} {s : List ℕ} {parts : List Part} → Symbols e s parts → Steps (around w) s → MayStand w (map symbol_of parts)
stands w none (drops m) = first w [] [] (λ behind. fronts behind (none {e = None})) m
stands w (delimiter {d = d} {s = s} {parts = parts} is n) (takes m) = inr (stands w n m)
stands w (delimiter {d = d} {s = s} {parts = parts} is n) (drops m) =
    inl (first w (d ∷ s) (map symbol_of (Constant d ∷ parts)) (λ behind. fronts behind (delimiter {e = None} is n)) m)
stands w (constant {s = s} {parts = parts} v k breaks is n) m = plain_stands w s parts (λ behind. fronts behind n) (stands w n) v m
stands w (variable {s = s} {parts = parts} v kind k breaks is n) m =
    variable_stands w s kind (map symbol_of parts) breaks (λ behind. fronts behind n) (stands w n) v (inner_of v k) m

pub texts_stand : PartsAreCut → TextsStand
texts_stand law w body parts are m = stands w (symbols_of law body parts are) (steps (around w) body m)

pub chunks_may_stand : PartsAreCut → ChunksMayStand
chunks_may_stand law ps c s body parts cut is behind are m =
    elim (chunks_brought law ps c s body parts cut is behind are m) [
      | inl here ↦ inl here
      | inr (inl a) ↦ inr (inl (record {
        front = a.front;
        back = a.back;
        before = a.before;
        joins = a.joins;
        some = a.some;
        marks = a.marks;
        ends = a.ends;
        goes = fronts_begin law a.back a.behind body parts are a.begins;
      }))
      | inr (inr there) ↦ inr (inr (texts_stand law (chunk_text c) body parts are there.0))
    ]

-- ---- the searches

-- what is left of a log type's text are symbols for which the rest of the statement says what the whole does
abbrev pub AreLeft : Type 0 → (List Symbol → Type 0) → List ℕ → Type 0
AreLeft P Q rest = (symbols : List Symbol) × (rest ≡ type_text symbols) × (P ↔ Q symbols)

pub none_left : (rest : List ℕ) → ((symbol : Symbol) (after : List ℕ) → rest ≢ text_of_symbol symbol ++ after) → (symbols : List Symbol) → rest ≡ type_text symbols → symbols ≡ []
none_left rest stuck [] typed = refl
none_left rest stuck (s ∷ symbols) typed = absurd (stuck s (type_text symbols) typed)

-- the symbols behind the first
pub one_left : (rest : List ℕ) (symbol : Symbol) (after : List ℕ) → rest ≡ text_of_symbol symbol ++ after → (symbols : List Symbol) → rest ≡ type_text symbols
    → (others : List Symbol) × (symbols ≡ symbol ∷ others) × (after ≡ type_text others)
one_left rest symbol after cut [] typed = absurd (some_byte symbol after (sym cut ∙ typed))
one_left rest symbol after cut (s ∷ symbols) typed =
    let both = first_same symbol s after (type_text symbols) (sym cut ∙ typed) in
    (symbols, ap (λ x. x ∷ symbols) (sym both.0), both.1)

-- one step of a search, which goes on with this of the symbols behind the first
pub left_then : (P : Type 0) (Q R : List Symbol → Type 0) (rest : List ℕ) (symbol : Symbol) (after : List ℕ) → rest ≡ text_of_symbol symbol ++ after
    → ((others : List Symbol) → Q (symbol ∷ others) ↔ R others) → AreLeft P Q rest → AreLeft P R after
left_then P Q R rest symbol after cut step left =
    let l = one_left rest symbol after cut left.0 left.1 in
    let here = subst (λ x. P ↔ Q x) l.1 left.2 in
    let more = step l.0 in
    (l.0, l.2, (λ p. more.0 (here.0 p), λ r. here.1 (more.1 r)))

pub stands_here : (w : List ℕ) (symbols : List Symbol) → MayBegin w symbols → MayStand w symbols
stands_here w [] m = m
stands_here w (s ∷ symbols) m = inl m

-- a text that may not begin with the first symbol stands in those behind it
pub refused_then : (P : Type 0) (w rest : List ℕ) (symbol : Symbol) (after : List ℕ) → rest ≡ text_of_symbol symbol ++ after
    → ((symbols : List Symbol) → rest ≡ type_text symbols → ¬ MayBegin w symbols) → AreLeft P (MayStand w) rest → AreLeft P (MayStand w) after
refused_then P w rest symbol after cut never left =
    let l = one_left rest symbol after cut left.0 left.1 in
    let here = subst (λ x. P ↔ MayStand w x) l.1 left.2 in
    let not_here = subst (λ x. ¬ MayBegin w x) l.1 (never left.0 left.1) in
    (l.0, l.2, (λ p. elim (here.0 p) [ inl m ↦ absurd (not_here m) | inr m ↦ m ], λ m. here.1 (inr m)))

-- a constant byte that is not the text's first
other_byte : (first b : ℕ) (w : List ℕ) → b ≢ first → (others : List Symbol) → MayStand (first ∷ w) (Byte b ∷ others) ↔ MayStand (first ∷ w) others
other_byte first b w other others = (λ m. elim m [ inl here ↦ absurd (other (sym here.0)) | inr there ↦ there ], λ m. inr m)

-- bytes that are passed over
pub passed_then : (P : Type 0) (first : ℕ) (w rest : List ℕ) (count : ℕ) → count ≤ length rest → IsPassed first rest count
    → AreLeft P (MayStand (first ∷ w)) rest → AreLeft P (MayStand (first ∷ w)) (drop count rest)
passed_then P first w rest zero within passed left = left
passed_then P first w [] (suc count) within passed left = absurd (omega (arith, within))
passed_then P first w (b ∷ rest) (suc count) within passed left =
    let here = passed 0 (omega arith) in
    let cut : b ∷ rest ≡ text_of_symbol (Byte b) ++ rest = ap (λ t. cond t (0x5C ∷ b ∷ []) (b ∷ []) ++ rest) (sym here.0) in
    passed_then P first w rest count (omega (arith, within)) (λ k below. passed (suc k) (omega (arith, below)))
    (left_then P (MayStand (first ∷ w)) (MayStand (first ∷ w)) (b ∷ rest) (Byte b) rest cut (other_byte first b w here.1) left)

-- the empty text stands anywhere
pub empty_stands : (w : List ℕ) → length w ≡ 0 → (symbols : List Symbol) → MayStand w symbols
empty_stands [] empty symbols = stands_here [] symbols tt
empty_stands (b ∷ w) empty symbols = absurd (omega (arith, empty))
