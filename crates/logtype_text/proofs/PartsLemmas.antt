-- The parts of the front of a body, and of one step more.
use Rattle.std.proofs.Common.{◌≡◌, ℕ, ◌+◌, ◌-◌, ◌≤◌, suc, List, [], ◌∷◌, ◌++◌, length, map, take, drop, refl, sym, ◌∙◌, ap, ap₂, subst, arith, inl, inr, length-append, length-take-le}
use Rattle.std.specs.Prelude.{slice_range}
use Rattle.std.proofs.lemmas.Bool.{cases_lt}
use Rattle.std.proofs.lemmas.List.{append-nil, map-append, take_all, take_at, drop_at, drop-drop}
use Rattle.std.proofs.lemmas.Grind.{flat_map-append}
use Rattle.std.proofs.Math.Seq.{take-add}
use Rattle.token_rules.specs.Tokens.{IsToken, IsVariableAt, OnlyDelimiters}
use Rattle.token_rules.proofs.ClassLemmas.{length-slice_range}
use Rattle.token_rules.proofs.TokenLemmas.{tokens_are_apart}
use Rattle.var_codec.specs.Codes.{Codes}
use Rattle.var_codec.specs.declared.Coded.{Coded}
use Rattle.logtype_text.specs.declared.symbols.Kind.{Kind}
use Rattle.logtype_text.specs.declared.symbols.Symbol.{Symbol}
use Rattle.logtype_text.specs.declared.symbols.Symbol.TheVariants.{Byte, Slot}
use Rattle.logtype_text.specs.declared.spans.Span.{Span}
use Rattle.logtype_text.specs.Parts.{Part, Constant, Variable, text_of_part, joined, HasKind, IsVariableToken, IsFree, StandAt, AreParts, symbol_of, places_of, parts_of, slot_count, IsSplit, AreCodes}

-- how many bytes the parts have
abbrev pub size : List Part → ℕ
size parts = length (joined parts)

pub stand-append : (body : List ℕ) (at : ℕ) (xs ys : List Part) → StandAt body at xs → StandAt body (at + size xs) ys → StandAt body at (xs ++ ys)
stand-append body at [] ys front back = subst (λ n. StandAt body n ys) (let e : at + 0 ≡ at = omega arith in e) back
stand-append body at (Constant b ∷ xs) ys front back =
    let place : at + suc (size xs) ≡ at + 1 + size xs = omega arith in
    (front.0, stand-append body (at + 1) xs ys front.1 (subst (λ n. StandAt body n ys) place back))
stand-append body at (Variable kind text ∷ xs) ys front back =
    let place : at + size (Variable kind text ∷ xs) ≡ at + length text + size xs = omega (arith, length-append text (joined xs)) in
    (front.0, front.1, stand-append body (at + length text) xs ys front.2 (subst (λ n. StandAt body n ys) place back))

pub places-append : (at : ℕ) (xs ys : List Part) → places_of at (xs ++ ys) ≡ places_of at xs ++ places_of (at + size xs) ys
places-append at [] ys = ap (λ n. places_of n ys) (let e : at ≡ at + 0 = omega arith in e)
places-append at (Constant b ∷ xs) ys =
    let place : at + 1 + size xs ≡ at + suc (size xs) = omega arith in
    places-append (at + 1) xs ys ∙ ap (λ n. places_of (at + 1) xs ++ places_of n ys) place
places-append at (Variable kind text ∷ xs) ys =
    let place : at + length text + size xs ≡ at + size (Variable kind text ∷ xs) = omega (arith, length-append text (joined xs)) in
    let span : Span = record { start = at; end = at + length text } in
    ap (λ l. span ∷ l) (places-append (at + length text) xs ys ∙ ap (λ n. places_of (at + length text) xs ++ places_of n ys) place)

pub free_join : (body : List ℕ) (from middle to : ℕ) → IsFree body from middle → IsFree body middle to → IsFree body from to
free_join body from middle to front back k low high =
    elim (cases_lt k middle) [ inl before ↦ front k low before | inr after ↦ back k after high ]

pub delimiters_free : (body : List ℕ) (from to : ℕ) → OnlyDelimiters body from to → IsFree body from to
delimiters_free body from to delimiters k low high lies =
    lies.holds.token.unbroken k lies.low lies.high (delimiters k low high)

pub constant_token_free : (body : List ℕ) (start end : ℕ) → IsToken body start end → ¬ IsVariableAt body start end → IsFree body start end
constant_token_free body start end token constant k low high lies =
    let same = tokens_are_apart body lies.start lies.end start end lies.holds.token token (omega (arith, lies.low)) (omega (arith, lies.high)) in
    constant (subst (λ n. IsVariableAt body n end) same.0 (subst (λ n. IsVariableAt body lies.start n) same.1 lies.holds.variable))

-- constant bytes as parts
abbrev pub constants : List ℕ → List Part
constants bytes = map Constant bytes

pub joined-constants : (bytes : List ℕ) → joined (constants bytes) ≡ bytes
joined-constants [] = refl
joined-constants (b ∷ bytes) = ap (λ l. b ∷ l) (joined-constants bytes)

pub symbols-constants : (bytes : List ℕ) → map symbol_of (constants bytes) ≡ map Byte bytes
symbols-constants [] = refl
symbols-constants (b ∷ bytes) = ap (λ l. Byte b ∷ l) (symbols-constants bytes)

pub places-constants : (at : ℕ) (bytes : List ℕ) → places_of at (constants bytes) ≡ []
places-constants at [] = refl
places-constants at (b ∷ bytes) = places-constants (at + 1) bytes

pub constants_stand : (body : List ℕ) (at : ℕ) (bytes : List ℕ) → IsFree body at (at + length bytes) → StandAt body at (constants bytes)
constants_stand body at [] free = tt
constants_stand body at (b ∷ bytes) free = (free at (omega arith) (omega arith), constants_stand body (at + 1) bytes (λ k low high. free k (omega arith) (omega arith)))

-- the symbols and spans are those of the body up to a place
pub record Before (body : List ℕ) (at : ℕ) (symbols : List Symbol) (spans : List Span) : Type 0 where
  pub parts : List Part
  pub joins : joined parts ≡ take at body
  pub stand : StandAt body 0 parts
  pub symbols_are : map symbol_of parts ≡ symbols
  pub spans_are : places_of 0 parts ≡ spans

pub before_any : (body : List ℕ) → Before body 0 [] []
before_any body = record { parts = []; joins = refl; stand = tt; symbols_are = refl; spans_are = refl }

-- some parts more
before_more : (body : List ℕ) (at to : ℕ) (symbols : List Symbol) (spans : List Span) (more : List Part) → at ≤ to → to ≤ length body → Before body at symbols spans → joined more ≡ slice_range body at to → StandAt body at more → Before body to (symbols ++ map symbol_of more) (spans ++ places_of at more)
before_more body at to symbols spans more ordered inside before joins stand =
    let counted : size before.parts ≡ at = ap length before.joins ∙ length-take-le at body (omega arith) in
    let size_is : 0 + size before.parts ≡ at = omega (arith, counted) in
    let reach : at + (to - at) ≡ to = omega arith in
    record {
      parts = before.parts ++ more;
      joins = flat_map-append text_of_part before.parts more ∙ ap₂ (λ xs ys. xs ++ ys) before.joins joins ∙ sym (take-add at (to - at) body) ∙ ap (λ n. take n body) reach;
      stand = stand-append body 0 before.parts more before.stand (subst (λ n. StandAt body n more) (sym size_is) stand);
      symbols_are = map-append symbol_of before.parts more ∙ ap (λ l. l ++ map symbol_of more) before.symbols_are;
      spans_are = places-append 0 before.parts more ∙ ap₂ (λ l n. l ++ places_of n more) before.spans_are size_is;
    }

-- constant bytes more
pub before_constants : (body : List ℕ) (at to : ℕ) (symbols : List Symbol) (spans : List Span) → at ≤ to → to ≤ length body → Before body at symbols spans → IsFree body at to → Before body to (symbols ++ map Byte (slice_range body at to)) spans
before_constants body at to symbols spans ordered inside before free =
    let bytes = slice_range body at to in
    let reach : at + length bytes ≡ to = omega (arith, length-slice_range body at to inside) in
    let more = before_more body at to symbols spans (constants bytes) ordered inside before (joined-constants bytes) (constants_stand body at bytes (subst (λ n. IsFree body at n) (sym reach) free)) in
    subst (λ l. Before body to l spans) (ap (λ l. symbols ++ l) (symbols-constants bytes))
    (subst (λ l. Before body to (symbols ++ map symbol_of (constants bytes)) l) (ap (λ l. spans ++ l) (places-constants at bytes) ∙ append-nil spans) more)

-- a variable more
pub before_variable : (body : List ℕ) (start end : ℕ) (symbols : List Symbol) (spans : List Span) (kind : Kind) → Before body start symbols spans → IsVariableToken body start end → HasKind (slice_range body start end) kind → Before body end (symbols ++ Slot kind ∷ []) (spans ++ record { start = start; end = end } ∷ [])
before_variable body start end symbols spans kind before token has_kind =
    let text = slice_range body start end in
    let inside = token.token.in_range in
    let not_empty = token.token.not_empty in
    let reach : start + length text ≡ end = omega (arith, length-slice_range body start end inside) in
    let more = before_more body start end symbols spans (Variable kind text ∷ []) (omega arith) inside before (append-nil text) (subst (λ n. IsVariableToken body start n) (sym reach) token, has_kind, tt) in
    subst (λ (n : ℕ). Before body end (symbols ++ Slot kind ∷ []) (spans ++ record { start = start; end = n } ∷ [])) reach more

-- the parts are found again
parts_again : (body : List ℕ) (at : ℕ) (parts : List Part) → joined parts ≡ drop at body → parts_of body (map symbol_of parts) (places_of at parts) ≡ parts
parts_again body at [] joins = refl
parts_again body at (Constant b ∷ parts) joins =
    let rest : joined parts ≡ drop (at + 1) body = ap (λ l. drop 1 l) joins ∙ drop-drop 1 at body in
    ap (λ l. Constant b ∷ l) (parts_again body (at + 1) parts rest)
parts_again body at (Variable kind text ∷ parts) joins =
    let long : at + length text - at ≡ length text = omega arith in
    let here : slice_range body at (at + length text) ≡ text = ap₂ (λ n l. take n l) long (sym joins) ∙ take_at text (joined parts) (length text) refl in
    let rest : joined parts ≡ drop (at + length text) body = sym (drop_at text (joined parts) (length text) refl) ∙ ap (λ l. drop (length text) l) joins ∙ drop-drop (length text) at body in
    ap₂ (λ t l. Variable kind t ∷ l) here (parts_again body (at + length text) parts rest)

-- at the end of the body
pub split_at_end : (body : List ℕ) (at : ℕ) (symbols : List Symbol) (spans : List Span) → length body ≤ at → Before body at symbols spans → IsSplit body symbols spans
split_at_end body at symbols spans reached before =
    let joins = before.joins ∙ take_all at body reached in
    let again : parts_of body symbols spans ≡ before.parts = sym (ap₂ (λ xs ys. parts_of body xs ys) before.symbols_are before.spans_are) ∙ parts_again body 0 before.parts joins in
    record {
      parts = subst (λ l. AreParts body l) (sym again) (record { joins = joins; stand = before.stand });
      all_symbols = ap (λ l. map symbol_of l) again ∙ before.symbols_are;
      all_spans = ap (λ l. places_of 0 l) again ∙ before.spans_are;
    }

-- the same of equal lists
pub before_same : {body : List ℕ} {at : ℕ} {symbols symbols' : List Symbol} {spans spans' : List Span} → symbols' ≡ symbols → spans' ≡ spans → Before body at symbols spans → Before body at symbols' spans'
before_same {body} {at} {symbols} {symbols'} {spans} {spans'} same same' before =
    subst (λ l. Before body at l spans') (sym same) (subst (λ l. Before body at symbols l) (sym same') before)

-- the places of variables are as many as the slots
length-places : (at : ℕ) (parts : List Part) → length (places_of at parts) ≡ slot_count (map symbol_of parts)
length-places at [] = refl
length-places at (Constant b ∷ parts) = length-places (at + 1) parts
length-places at (Variable kind text ∷ parts) = let rest = length-places (at + length text) parts in omega (arith, rest)

pub split_count : (body : List ℕ) (symbols : List Symbol) (spans : List Span) → IsSplit body symbols spans → length spans ≡ slot_count symbols
split_count body symbols spans split =
    let parts = parts_of body symbols spans in
    sym (ap (λ l. length l) split.all_spans) ∙ length-places 0 parts ∙ ap slot_count split.all_symbols

-- the code of one variable more
pub codes_more : (body : List ℕ) (spans : List Span) (codes : List Coded) (span : Span) (coded : Coded) → AreCodes body spans codes → Codes (slice_range body span.start span.end) coded → AreCodes body (spans ++ span ∷ []) (codes ++ coded ∷ [])
codes_more body [] [] span coded before here = (here, tt)
codes_more body [] (c ∷ codes) span coded before here = absurd before
codes_more body (s ∷ spans) [] span coded before here = absurd before
codes_more body (s ∷ spans) (c ∷ codes) span coded before here = (before.0, codes_more body spans codes span coded before.1 here)

-- the same of equal lists
pub codes_same : (body : List ℕ) {spans spans' : List Span} {codes codes' : List Coded} → spans' ≡ spans → codes' ≡ codes → AreCodes body spans codes → AreCodes body spans' codes'
codes_same body {spans} {spans'} {codes} {codes'} same same' before =
    subst (λ l. AreCodes body l codes') (sym same) (subst (λ l. AreCodes body spans l) (sym same') before)
