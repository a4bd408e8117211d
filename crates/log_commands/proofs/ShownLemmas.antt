-- The text that a message is shown as, from one variable to the next.
use Rattle.std.proofs.Common.{◌≡◌, refl, sym, ◌∙◌, ap, ap₂, subst, ℕ, zero, suc, ◌+◌, ◌-◌, ◌<◌, ◌≤◌, List, [], ◌∷◌, ◌++◌, length, map, take, drop, get_or, arith}
use Rattle.std.specs.List.{slice_range}
use Rattle.std.proofs.lemmas.List.{append-nil, append_assoc, drop-drop, length-drop, length-append, drop_all, take_rest}
use Rattle.std.proofs.Math.Seq.{take-append_seam, drop-append_seam, drop-cons}
use Rattle.std.proofs.lemmas.Result.{on_ok_weaker}
use Rattle.std.specs.Prelude.{Result, OnOk, true, codes, nat_eq}
use Rattle.logtype_text.specs.declared.symbols.Kind.{Kind}
use Rattle.logtype_text.specs.declared.spans.Span.{Span}
use Rattle.logtype_text.specs.Parts.{Part, Constant, Variable, AreCodes, AreParts, joined, places_of}
use Rattle.var_codec.specs.Codes.{Codes}
use Rattle.var_codec.specs.declared.Coded.{Coded}
use Rattle.std.proofs.lemmas.Bool.{agree_below_at, eqb-true}
use Rattle.command_answers.specs.Shown.{hexadecimal_digit, marked, Shows, ShowsParts}

-- the variable is shown as its coding says
pub Shown-as : {E : Type 0} (r : Result Unit E) (new old shown wanted : List ℕ) → shown ≡ wanted → OnOk r (new ≡ old ++ shown) → OnOk r (new ≡ old ++ wanted)
Shown-as r new old shown wanted is on = on_ok_weaker {Q = new ≡ old ++ wanted} r (λ e. e ∙ ap (λ t. old ++ t) is) on

-- a variable's code is that of its text
pub code_at : (message : List ℕ) (spans : List Span) (codes : List Coded) (i : ℕ) (none : Span) (no_code : Coded) → AreCodes message spans codes → i < length spans → Codes (slice_range message (get_or spans i none).start (get_or spans i none).end) (get_or codes i no_code)
code_at message [] [] i none no_code are less = absurd (omega (arith, less))
code_at message [] (c ∷ codes) i none no_code are less = absurd are
code_at message (s ∷ spans) [] i none no_code are less = absurd are
code_at message (s ∷ spans) (c ∷ codes) zero none no_code are less = are.0
code_at message (s ∷ spans) (c ∷ codes) (suc i) none no_code are less = code_at message spans codes i none no_code are.1 (omega (arith, less))

-- and so where the lists are read from elsewhere
pub code_in : (message : List ℕ) (spans lent : List Span) (codes lent' : List Coded) (i : ℕ) (none : Span) (no_code : Coded) → lent ≡ spans → lent' ≡ codes → AreCodes message spans codes → i < length lent → Codes (slice_range message (get_or lent i none).start (get_or lent i none).end) (get_or lent' i no_code)
code_in message spans lent codes lent' i none no_code same same' are less =
    code_at message lent lent' i none no_code (subst (λ l. AreCodes message l lent') (sym same) (subst (λ l. AreCodes message spans l) (sym same') are)) less

-- the table of digits is held against the definition at each of the 16 places, by computing
pub digit_at : (d : ℕ) → d < 16 → get_or (codes "0123456789ABCDEF") d 0 ≡ hexadecimal_digit d
digit_at d less = eqb-true _ _ (agree_below_at (λ d. nat_eq (get_or (codes "0123456789ABCDEF") d 0) (hexadecimal_digit d)) (λ _. true) 16 d refl less)

-- constants are shown as themselves
pub ShowsParts-constants : (bytes : List ℕ) (parts : List Part) (shown : List ℕ) → ShowsParts parts shown → ShowsParts (map Constant bytes ++ parts) (bytes ++ shown)
ShowsParts-constants [] parts shown s = s
ShowsParts-constants (b ∷ bytes) parts shown s = (b ∷ [], bytes ++ shown, refl, refl, ShowsParts-constants bytes parts shown s)

-- The first variable that is left: the constants before it, its text, and what follows.
pub record NextVariable (at : ℕ) (left : List Part) (span : Span) (spans : List Span) : Type 0 where
  pub constants : List ℕ
  pub kind : Kind
  pub variable : List ℕ
  pub after : List Part
  pub splits : left ≡ map Constant constants ++ (Variable kind variable ∷ after)
  pub start : span.start ≡ at + length constants
  pub end : span.end ≡ span.start + length variable
  pub bytes : joined left ≡ constants ++ (variable ++ joined after)
  pub places : places_of span.end after ≡ spans

pub next_variable : (at : ℕ) (left : List Part) (span : Span) (spans : List Span) → places_of at left ≡ span ∷ spans → NextVariable at left span spans
next_variable at [] span spans e = absurd cc
next_variable at (Constant b ∷ left) span spans e =
    let n = next_variable (at + 1) left span spans e in
    record { constants = b ∷ n.constants; kind = n.kind; variable = n.variable; after = n.after; splits = ap (λ l. Constant b ∷ l) n.splits; start = omega (arith, n.start); end = n.end; bytes = ap (λ l. b ∷ l) n.bytes; places = n.places }
next_variable at (Variable kind text ∷ left) span spans e =
    let is : record { start = at; end = at + length text } ≡ span = cc in
    let rest : places_of (at + length text) left ≡ spans = cc in
    let start : at ≡ span.start = ap (λ (s : Span). s.start) is in
    let end : at + length text ≡ span.end = ap (λ (s : Span). s.end) is in
    record { constants = []; kind = kind; variable = text; after = left; splits = refl; start = omega arith; end = omega arith; bytes = refl; places = ap (λ x. places_of x left) (sym end) ∙ rest }

-- no variable is left
pub no_variable : (at : ℕ) (left : List Part) → places_of at left ≡ [] → left ≡ map Constant (joined left)
no_variable at [] e = refl
no_variable at (Constant b ∷ left) e = ap (λ l. Constant b ∷ l) (no_variable (at + 1) left e)
no_variable at (Variable kind text ∷ left) e = absurd cc

-- what a list is cut into
record Cuts (xs a b c : List ℕ) (at : ℕ) : Type 0 where
  front : take (length a) (drop at xs) ≡ a
  middle : take (length b) (drop (at + length a) xs) ≡ b
  rest : drop (at + length a + length b) xs ≡ c

cuts : (xs a b c : List ℕ) (at : ℕ) → drop at xs ≡ a ++ (b ++ c) → Cuts xs a b c at
cuts xs a b c at e = record {
  front = ap (take (length a)) e ∙ take-append_seam a (b ++ c);
  middle = ap (take (length b)) after ∙ take-append_seam b c;
  rest = sym (drop-drop (length b) (at + length a) xs) ∙ (ap (drop (length b)) after ∙ drop-append_seam b c);
}
  where
    after : drop (at + length a) xs ≡ b ++ c
    after = sym (drop-drop (length a) at xs) ∙ (ap (drop (length a)) e ∙ drop-append_seam a (b ++ c))

-- How far a message is shown: the parts that are left stand in the message from `at` on, and the first so many of its variables were shown.
pub record ShownTo (message : List ℕ) (parts : List Part) (spans : List Span) (old now : List ℕ) (at done : ℕ) : Type 0 where
  pub left : List Part
  pub shown : List ℕ
  pub whole : (text : List ℕ) → ShowsParts left text → ShowsParts parts (shown ++ text)
  pub gathered : now ≡ old ++ shown
  pub bytes : drop at message ≡ joined left
  pub places : places_of at left ≡ drop done spans
  pub within : at ≤ length message

pub ShownTo-nothing : (message : List ℕ) (parts : List Part) (spans : List Span) (old : List ℕ) → joined parts ≡ message → places_of 0 parts ≡ spans → ShownTo message parts spans old old 0 0
ShownTo-nothing message parts spans old joins places = record { left = parts; shown = []; whole = λ text s. s; gathered = sym (append-nil old); bytes = sym joins; places = places; within = omega arith }

-- the next variable, and where it stands
pub record Next (message : List ℕ) (left : List Part) (spans : List Span) (at done : ℕ) (span : Span) : Type 0 where
  pub next : NextVariable at left span (drop (suc done) spans)
  pub order : at ≤ span.start
  pub forward : span.start ≤ span.end
  pub within : span.end ≤ length message
  pub constants : slice_range message at span.start ≡ next.constants
  pub variable : slice_range message span.start span.end ≡ next.variable
  pub rest : drop span.end message ≡ joined next.after

pub next_of : (message : List ℕ) (parts : List Part) (spans : List Span) (old now : List ℕ) (at done : ℕ) (none span : Span) → (s : ShownTo message parts spans old now at done) → done < length spans → get_or spans done none ≡ span → Next message s.left spans at done span
next_of message parts spans old now at done none span s more is = record {
  next = n;
  order = omega (arith, n.start);
  forward = omega (arith, n.end);
  within = omega (arith, n.start, n.end, s.within, size);
  constants = ap (λ k. take k (drop at message)) first ∙ cut.front;
  variable = ap (λ k. take k (drop span.start message)) second ∙ (ap (λ k. take (length n.variable) (drop k message)) n.start ∙ cut.middle);
  rest = ap (λ k. drop k message) third ∙ cut.rest;
}
  where
    n : NextVariable at s.left span (drop (suc done) spans)
    n = next_variable at s.left span (drop (suc done) spans) (s.places ∙ (drop-cons spans done none more ∙ ap (λ x. x ∷ drop (suc done) spans) is))

    cut : Cuts message n.constants n.variable (joined n.after) at
    cut = cuts message n.constants n.variable (joined n.after) at (s.bytes ∙ n.bytes)

    size : length message - at ≡ length n.constants + (length n.variable + length (joined n.after))
    size = sym (length-drop at message) ∙ (ap length (s.bytes ∙ n.bytes) ∙ (length-append n.constants (n.variable ++ joined n.after) ∙ ap (λ k. length n.constants + k) (length-append n.variable (joined n.after))))

    first : span.start - at ≡ length n.constants
    first = omega (arith, n.start)

    second : span.end - span.start ≡ length n.variable
    second = omega (arith, n.end)

    third : span.end ≡ at + length n.constants + length n.variable
    third = omega (arith, n.start, n.end)

-- one more variable was shown
pub ShownTo-next : (message : List ℕ) (parts : List Part) (spans : List Span) (old now new : List ℕ) (at done : ℕ) (none span : Span) → ShownTo message parts spans old now at done → done < length spans → get_or spans done none ≡ span → ((coded : Coded) × Codes (slice_range message span.start span.end) coded × (new ≡ (now ++ slice_range message at span.start) ++ marked (slice_range message span.start span.end) coded)) → ShownTo message parts spans old new span.end (done + 1)
ShownTo-next message parts spans old now new at done none span s more is v = record {
  left = n.next.after;
  shown = s.shown ++ (n.next.constants ++ mark);
  whole = λ text t. subst (λ x. ShowsParts parts x) (regroup text) (s.whole (n.next.constants ++ (mark ++ text)) (subst (λ l. ShowsParts l (n.next.constants ++ (mark ++ text))) (sym n.next.splits) (ShowsParts-constants n.next.constants (Variable n.next.kind n.next.variable ∷ n.next.after) (mark ++ text) (mark, text, refl, (v.0, subst (λ x. Codes x v.0) n.variable v.1, refl), t))));
  gathered = v.2 ∙ (ap₂ (λ x y. x ++ marked y v.0) (ap₂ (λ x y. x ++ y) s.gathered n.constants) n.variable ∙ (append_assoc (old ++ s.shown) n.next.constants mark ∙ append_assoc old s.shown (n.next.constants ++ mark)));
  bytes = n.rest;
  places = n.next.places ∙ ap (λ k. drop k spans) (add-one done);
  within = n.within;
}
  where
    n : Next message s.left spans at done span
    n = next_of message parts spans old now at done none span s more is

    mark : List ℕ
    mark = marked n.next.variable v.0

    add-one : (k : ℕ) → suc k ≡ k + 1
    add-one k = omega arith

    regroup : (text : List ℕ) → s.shown ++ (n.next.constants ++ (mark ++ text)) ≡ (s.shown ++ (n.next.constants ++ mark)) ++ text
    regroup text = simp append_assoc

-- all of it was shown
pub Shown-all : (message : List ℕ) (parts : List Part) (spans : List Span) (old now mid new : List ℕ) (at done : ℕ) → AreParts message parts → ShownTo message parts spans old now at done → length spans ≤ done → mid ≡ now ++ take (length message - at) (drop at message) → new ≡ mid ++ 10 ∷ [] → (text : List ℕ) × (new ≡ old ++ text) × Shows message text
Shown-all message parts spans old now mid new at done are s none e f = (
  (s.shown ++ drop at message) ++ 10 ∷ [],
  f ∙ (ap (λ x. x ++ 10 ∷ []) (e ∙ ap (λ x. now ++ x) (take_rest message at) ∙ (ap (λ x. x ++ drop at message) s.gathered ∙ append_assoc old s.shown (drop at message))) ∙ append_assoc old (s.shown ++ drop at message) (10 ∷ [])),
  record { parts = parts; are = are; shown = s.shown ++ drop at message; shows = s.whole (drop at message) last; is = refl },
)
  where
    constants : s.left ≡ map Constant (joined s.left)
    constants = no_variable at s.left (s.places ∙ drop_all done spans none)

    last : ShowsParts s.left (drop at message)
    last = subst (λ x. ShowsParts s.left x) (append-nil (joined s.left) ∙ sym s.bytes) (subst (λ l. ShowsParts l (joined s.left ++ [])) (append-nil (map Constant (joined s.left)) ∙ sym constants) (ShowsParts-constants (joined s.left) [] [] refl))
