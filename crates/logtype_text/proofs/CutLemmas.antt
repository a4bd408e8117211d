-- Parts are those of a body exactly where they join to it and are cut by the rule of tokens.
use Rattle.std.proofs.Common.{◌≡◌, ℕ, ◌+◌, ◌-◌, ◌<◌, ◌≤◌, ◌⊎◌, zero, suc, true, List, [], ◌∷◌, ◌++◌, length, take, drop, refl, sym, ◌∙◌, ap, ap₂, subst, arith, inl, inr, add-one, length-append, length-drop}
use Rattle.std.specs.Prelude.{Option, None, Some, slice_index, slice_range}
use Rattle.std.proofs.lemmas.Bool.{cases_Bool}
use Rattle.std.proofs.lemmas.List.{take_at, drop_at, drop-drop, get_or-drop, get_or_append_left, get_or-append_right}
use Rattle.std.proofs.lemmas.Option.{slice_get-get_or}
use Rattle.token_rules.specs.Tokens.{IsDelimiter, IsToken, IsVariable, IsVariableAt, byte_before, is_token_byte}
use Rattle.token_rules.proofs.TokenLemmas.{no_delimiter}
use Rattle.logtype_text.specs.declared.symbols.Kind.{Kind}
use Rattle.logtype_text.specs.Parts.{Part, Constant, Variable, joined, IsFree, StandAt}
use Rattle.logtype_text.specs.Cut.{IsTokenText, Breaks, plains, Cut, ended, delimiter, plain, held, PartsAreCut}
use Rattle.logtype_text.proofs.PartsLemmas.{size, stand-append, constants, joined-constants, constants_stand, constant_token_free}

-- a token may begin at the place, with this byte directly before it
record Opens (body : List ℕ) (at : ℕ) (prev : Option ℕ) : Type 0 where
  before : byte_before body at ≡ prev
  left : 0 < at → IsDelimiter (slice_index body (at - 1))

opens_start : (body : List ℕ) → Opens body 0 None
opens_start body = record { before = refl; left = λ positive. absurd (omega arith) }

opens_after : (body : List ℕ) (at b : ℕ) → at < length body → slice_index body at ≡ b → IsDelimiter b → Opens body (at + 1) (Some b)
opens_after body at b inside here is =
    let next : suc at ≡ at + 1 = sym (add-one at) in
    let back : at ≡ at + 1 - 1 = omega arith in
    record {
      before = ap (λ n. byte_before body n) (sym next) ∙ slice_get-get_or body at 0 inside ∙ ap (λ (n : ℕ). Some n) here;
      left = λ _. subst (λ n. IsDelimiter (slice_index body n)) back (subst IsDelimiter (sym here) is);
    }

-- a token that is the front of what is left is a token of the body
record Here (body : List ℕ) (at : ℕ) (prev : Option ℕ) (token rest : List ℕ) : Type 0 where
  is_token : IsToken body at (at + length token)
  text : slice_range body at (at + length token) ≡ token

-- what follows a token: nothing, or a delimiter
EndsToken : List ℕ → Type 0
EndsToken rest = 0 < length rest → IsDelimiter (slice_index rest 0)

byte_of : (body : List ℕ) (at k : ℕ) → slice_index (drop at body) k ≡ slice_index body (at + k)
byte_of body at k = get_or-drop at body k 0

token_here : (body : List ℕ) (at : ℕ) (prev : Option ℕ) (token rest : List ℕ) → token ++ rest ≡ drop at body → Opens body at prev → IsTokenText token → EndsToken rest → Here body at prev token rest
unfolding EndsToken
token_here body at prev token rest joins opens text ends =
    let some = text.some in
    let long : length token + length rest ≡ length body - at = sym (length-append token rest) ∙ ap length joins ∙ length-drop at body in
    let span : at + length token - at ≡ length token = omega arith in
    let bytes : (k : ℕ) → k < length token → slice_index token k ≡ slice_index body (at + k) = λ k low.
    sym (get_or_append_left token rest 0 k low) ∙ ap (λ l. slice_index l k) joins ∙ byte_of body at k in
    record {
      is_token = record {
        not_empty = omega arith;
        in_range = omega arith;
        unbroken = λ k low high.
            let place : at + (k - at) ≡ k = omega arith in
            let unbroken = text.unbroken (k - at) (omega arith) in
            subst (λ n. ¬ IsDelimiter (slice_index body n)) place (subst (λ b. ¬ IsDelimiter b) (bytes (k - at) (omega arith)) unbroken);
        left = opens.left;
        right = λ more.
            let next : slice_index rest 0 ≡ slice_index body (at + length token) =
            sym (get_or-append_right token rest (length token) (length token) 0 refl (omega arith) ∙ ap (λ n. slice_index rest n) (let e : length token - length token ≡ 0 = omega arith in e)) ∙ ap (λ l. slice_index l (length token)) joins ∙ byte_of body at (length token) in
            subst IsDelimiter next (ends (omega arith));
      };
      text = ap₂ (λ n l. take n l) span (sym joins) ∙ take_at token rest (length token) refl;
    }

-- constants and then parts
plains_are : (token : List ℕ) (parts : List Part) → plains token parts ≡ constants token ++ parts
plains_are [] parts = refl
plains_are (b ∷ token) parts = ap (λ l. Constant b ∷ l) (plains_are token parts)

joined-plains : (token : List ℕ) (parts : List Part) → joined (plains token parts) ≡ token ++ joined parts
joined-plains [] parts = refl
joined-plains (b ∷ token) parts = ap (λ l. b ∷ l) (joined-plains token parts)

length-plains : (token : List ℕ) (parts : List Part) → length (plains token parts) ≡ length token + length parts
length-plains [] parts = sym (let e : 0 + length parts ≡ length parts = omega arith in e)
length-plains (b ∷ token) parts = let rest = length-plains token parts in omega arith

breaks_end : (parts : List Part) → Breaks parts → EndsToken (joined parts)
unfolding EndsToken
breaks_end [] breaks = λ more. absurd (omega arith)
breaks_end (Constant b ∷ parts) breaks = λ _. breaks
breaks_end (Variable kind text ∷ parts) breaks = absurd breaks

-- no token begins parts before which a token ends
no_token_breaks : (token : List ℕ) (parts : List Part) → IsTokenText token → ¬ Breaks (plains token parts)
no_token_breaks [] parts text breaks = let some = text.some in omega arith
no_token_breaks (b ∷ token) parts text breaks = text.unbroken 0 (omega arith) breaks

-- where the parts begin with a token, one may begin there
abbrev Begins : List ℕ → ℕ → Option ℕ → List Part → Type 0
Begins body at prev parts = Breaks parts ⊎ Opens body at prev

begins_with : (body : List ℕ) (at : ℕ) (prev : Option ℕ) (token : List ℕ) (parts : List Part) → IsTokenText token → Begins body at prev (plains token parts) → Opens body at prev
begins_with body at prev token parts text begins = elim begins [ inl breaks ↦ absurd (no_token_breaks token parts text breaks) | inr opens ↦ opens ]

begins_variable : (body : List ℕ) (at : ℕ) (prev : Option ℕ) (kind : Kind) (token : List ℕ) (parts : List Part) → Begins body at prev (Variable kind token ∷ parts) → Opens body at prev
begins_variable body at prev kind token parts begins = elim begins [ inl breaks ↦ absurd breaks | inr opens ↦ opens ]

-- a delimiter lies in no variable
delimiter_free : (body : List ℕ) (at b : ℕ) → slice_index body at ≡ b → IsDelimiter b → IsFree body at (at + 1)
delimiter_free body at b here is k low high lies =
    let same : at ≡ k = omega arith in
    lies.holds.token.unbroken k lies.low lies.high (subst (λ n. IsDelimiter (slice_index body n)) same (subst IsDelimiter (sym here) is))

first_byte : (body : List ℕ) (at b : ℕ) (rest : List ℕ) → b ∷ rest ≡ drop at body → slice_index body at ≡ b
first_byte body at b rest joins = ap (λ n. slice_index body n) (let e : at ≡ at + 0 = omega arith in e) ∙ sym (byte_of body at 0) ∙ ap (λ l. slice_index l 0) (sym joins)

inside_first : (body : List ℕ) (at b : ℕ) (rest : List ℕ) → b ∷ rest ≡ drop at body → at < length body
inside_first body at b rest joins = omega (arith, ap length joins, length-drop at body)

tail_joins : (body : List ℕ) (at b : ℕ) (rest : List ℕ) → b ∷ rest ≡ drop at body → rest ≡ drop (at + 1) body
tail_joins body at b rest joins = ap (λ l. drop 1 l) joins ∙ drop-drop 1 at body

past_joins : (body : List ℕ) (at : ℕ) (text rest : List ℕ) → text ++ rest ≡ drop at body → rest ≡ drop (at + length text) body
past_joins body at text rest joins = sym (drop_at text rest (length text) refl) ∙ ap (λ l. drop (length text) l) joins ∙ drop-drop (length text) at body

cut_stands : {prev : Option ℕ} {parts : List Part} → Cut prev parts → (body : List ℕ) (at : ℕ) → joined parts ≡ drop at body → Begins body at prev parts → StandAt body at parts
cut_stands ended body at joins begins = tt
cut_stands (delimiter {prev} {parts} b is rest) body at joins begins =
    let here = first_byte body at b (joined parts) joins in
    let inside = inside_first body at b (joined parts) joins in (
      delimiter_free body at b here is at (omega arith) (omega arith),
      cut_stands rest body (at + 1) (tail_joins body at b (joined parts) joins) (inr (opens_after body at b inside here is)),
    )
cut_stands (plain {prev} {parts} token text breaks constant rest) body at joins begins =
    let opens = begins_with body at prev token parts text begins in
    let apart : token ++ joined parts ≡ drop at body = sym (joined-plains token parts) ∙ joins in
    let here = token_here body at prev token (joined parts) apart opens text (breaks_end parts breaks) in
    let not : ¬ IsVariableAt body at (at + length token) = λ held. constant (subst (λ p. IsVariable p token) opens.before (subst (λ t. IsVariable (byte_before body at) t) here.text held)) in
    let free = constant_token_free body at (at + length token) here.is_token not in
    let long : length token ≡ size (constants token) = sym (ap length (joined-constants token)) in
    let after = cut_stands rest body (at + length token) (past_joins body at token (joined parts) apart) (inl breaks) in
    subst (λ l. StandAt body at l) (sym (plains_are token parts))
    (stand-append body at (constants token) parts (constants_stand body at token free) (subst (λ n. StandAt body (at + n) parts) long after))
cut_stands (held {prev} {parts} kind token text breaks variable has_kind rest) body at joins begins =
    let opens = begins_variable body at prev kind token parts begins in
    let here = token_here body at prev token (joined parts) joins opens text (breaks_end parts breaks) in
    let is : IsVariableAt body at (at + length token) = subst (λ t. IsVariable (byte_before body at) t) (sym here.text) (subst (λ p. IsVariable p token) (sym opens.before) variable) in
    (record { token = here.is_token; variable = is }, has_kind, cut_stands rest body (at + length token) (past_joins body at token (joined parts) joins) (inl breaks))

-- the constants of a token at the front, and what follows them
Stops : List Part → Type 0
Stops [] = Unit {0}
Stops (Constant b ∷ parts) = IsDelimiter b
Stops (Variable kind text ∷ parts) = Unit {0}

record Run (parts : List Part) : Type 0 where
  token : List ℕ
  rest : List Part
  same : parts ≡ plains token rest
  text : IsTokenText token
  stops : Stops rest

unbroken_cons : (b : ℕ) (token : List ℕ) → ¬ IsDelimiter b → ((k : ℕ) → k < length token → ¬ IsDelimiter (slice_index token k)) → (k : ℕ) → k < length (b ∷ token) → ¬ IsDelimiter (slice_index (b ∷ token) k)
unbroken_cons b token here rest zero low = here
unbroken_cons b token here rest (suc k) low = rest k (omega arith)

one_byte : (b : ℕ) → is_token_byte b ≡ true → IsTokenText (b ∷ [])
one_byte b of_token = record { some = omega arith; unbroken = unbroken_cons b [] (no_delimiter b of_token) (λ k low. absurd (omega arith)) }

byte_more : (b : ℕ) (token : List ℕ) → is_token_byte b ≡ true → IsTokenText token → IsTokenText (b ∷ token)
byte_more b token of_token text = record { some = omega arith; unbroken = unbroken_cons b token (no_delimiter b of_token) text.unbroken }

run_of : (b : ℕ) (parts : List Part) → is_token_byte b ≡ true → Run (Constant b ∷ parts)
unfolding Stops
run_of b [] of_token = record { token = b ∷ []; rest = []; same = refl; text = one_byte b of_token; stops = tt }
run_of b (Variable kind text ∷ parts) of_token = record { token = b ∷ []; rest = Variable kind text ∷ parts; same = refl; text = one_byte b of_token; stops = tt }
run_of b (Constant c ∷ parts) of_token = elim (cases_Bool (is_token_byte c)) [
  | inl more ↦
      let run = run_of c parts more in
      record { token = b ∷ run.token; rest = run.rest; same = ap (λ l. Constant b ∷ l) run.same; text = byte_more b run.token of_token run.text; stops = run.stops }
  | inr none ↦ record { token = b ∷ []; rest = Constant c ∷ parts; same = refl; text = one_byte b of_token; stops = none }
]

-- the parts behind constants stand behind them
stands_past : (body : List ℕ) (at : ℕ) (token : List ℕ) (parts : List Part) → StandAt body at (plains token parts) → StandAt body (at + length token) parts
stands_past body at [] parts stand = subst (λ n. StandAt body n parts) (let e : at ≡ at + 0 = omega arith in e) stand
stands_past body at (b ∷ token) parts stand =
    subst (λ n. StandAt body n parts) (let e : at + 1 + length token ≡ at + suc (length token) = omega arith in e) (stands_past body (at + 1) token parts stand.1)

-- behind a token that is no variable's, no variable's token begins
stops_breaks : (body : List ℕ) (at : ℕ) (token : List ℕ) (rest : List Part) → IsTokenText token → token ++ joined rest ≡ drop at body → StandAt body (at + length token) rest → Stops rest → Breaks rest
unfolding Stops
stops_breaks body at token [] text joins stand stops = tt
stops_breaks body at token (Constant b ∷ rest) text joins stand stops = stops
stops_breaks body at token (Variable kind name ∷ rest) text joins stand stops =
    let some = text.some in
    let last = length token - 1 in
    let place : at + length token - 1 ≡ at + last = omega arith in
    let byte : slice_index token last ≡ slice_index body (at + last) =
    sym (get_or_append_left token (joined (Variable kind name ∷ rest)) 0 last (omega arith)) ∙ ap (λ l. slice_index l last) joins ∙ byte_of body at last in
    let delimits = stand.0.token.left (omega arith) in
    absurd (text.unbroken last (omega arith) (subst IsDelimiter (sym byte) (subst (λ n. IsDelimiter (slice_index body n)) place delimits)))

-- behind a variable its token ends
held_breaks : (body : List ℕ) (at : ℕ) (parts : List Part) → joined parts ≡ drop at body → (at < length body → IsDelimiter (slice_index body at)) → StandAt body at parts → Breaks parts
held_breaks body at [] joins right stand = tt
held_breaks body at (Constant b ∷ parts) joins right stand = subst IsDelimiter (first_byte body at b (joined parts) joins) (right (inside_first body at b (joined parts) joins))
held_breaks body at (Variable kind text ∷ parts) joins right stand =
    let token = stand.0.token in
    let not_empty = token.not_empty in
    let in_range = token.in_range in
    absurd (token.unbroken at (omega arith) not_empty (right (omega arith)))

-- a variable's text is a token's
held_text : (body : List ℕ) (at : ℕ) (text : List ℕ) (rest : List ℕ) → text ++ rest ≡ drop at body → IsToken body at (at + length text) → IsTokenText text
held_text body at text rest joins token = record {
  some = let not_empty = token.not_empty in omega arith;
  unbroken = λ k low.
      let byte : slice_index text k ≡ slice_index body (at + k) = sym (get_or_append_left text rest 0 k low) ∙ ap (λ l. slice_index l k) joins ∙ byte_of body at k in
      subst (λ b. ¬ IsDelimiter b) (sym byte) (token.unbroken (at + k) (omega arith) (omega arith));
}

stands_cut : (n : ℕ) (body : List ℕ) (at : ℕ) (prev : Option ℕ) (parts : List Part) → length parts ≤ n → joined parts ≡ drop at body → Begins body at prev parts → StandAt body at parts → Cut prev parts
stands_cut n body at prev [] few joins begins stand = ended
stands_cut zero body at prev (p ∷ parts) few joins begins stand = absurd (omega arith)
stands_cut (suc n) body at prev (Variable kind text ∷ parts) few joins begins stand =
    let opens = begins_variable body at prev kind text parts begins in
    let token = stand.0.token in
    let past = past_joins body at text (joined parts) joins in
    let span : at + length text - at ≡ length text = omega arith in
    let bytes : slice_range body at (at + length text) ≡ text = ap₂ (λ k l. take k l) span (sym joins) ∙ take_at text (joined parts) (length text) refl in
    let is : IsVariable prev text = subst (λ t. IsVariable prev t) bytes (subst (λ p. IsVariable p (slice_range body at (at + length text))) opens.before stand.0.variable) in
    let breaks = held_breaks body (at + length text) parts past token.right stand.2 in
    held kind text (held_text body at text (joined parts) joins token) breaks is stand.1 (stands_cut n body (at + length text) None parts (omega arith) past (inl breaks) stand.2)
stands_cut (suc n) body at prev (Constant b ∷ parts) few joins begins stand = elim (cases_Bool (is_token_byte b)) [
  | inl of_token ↦
      let run = run_of b parts of_token in
      let token = run.token in
      let rest = run.rest in
      let some = run.text.some in
      let counted = ap length run.same ∙ length-plains token rest in
      let opens = begins_with body at prev token rest run.text (subst (λ l. Begins body at prev l) run.same begins) in
      let apart : token ++ joined rest ≡ drop at body = sym (joined-plains token rest) ∙ ap joined (sym run.same) ∙ joins in
      let after = stands_past body at token rest (subst (λ l. StandAt body at l) run.same stand) in
      let breaks = stops_breaks body at token rest run.text apart after run.stops in
      let here = token_here body at prev token (joined rest) apart opens run.text (breaks_end rest breaks) in
      let constant : ¬ IsVariable prev token = λ variable.
      let is : IsVariableAt body at (at + length token) = subst (λ t. IsVariable (byte_before body at) t) (sym here.text) (subst (λ p. IsVariable p token) (sym opens.before) variable) in
      stand.0 (record { start = at; end = at + length token; holds = record { token = here.is_token; variable = is }; low = omega arith; high = omega arith }) in
      subst (λ l. Cut prev l) (sym run.same)
      (plain token run.text breaks constant (stands_cut n body (at + length token) None rest (omega (arith, counted)) (past_joins body at token (joined rest) apart) (inl breaks) after))
  | inr is ↦
      let here = first_byte body at b (joined parts) joins in
      let inside = inside_first body at b (joined parts) joins in
      delimiter b is (stands_cut n body (at + 1) (Some b) parts (omega arith) (tail_joins body at b (joined parts) joins) (inr (opens_after body at b inside here is)) stand.1)
]

pub parts_are_cut : PartsAreCut
parts_are_cut body parts = (
  λ are. (are.joins, stands_cut (length parts) body 0 None parts (omega arith) are.joins (inr (opens_start body)) are.stand),
  λ (joins, cut). record { joins = joins; stand = cut_stands cut body 0 joins (inr (opens_start body)) },
)
