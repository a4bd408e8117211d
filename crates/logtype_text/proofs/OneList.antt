-- A body has one list of parts, and each token that is a variable is one of them.
use Rattle.std.proofs.Common.{◌≡◌, ℕ, ◌+◌, ◌-◌, ◌<◌, ◌≤◌, List, [], ◌∷◌, ◌++◌, length, map, take, drop, refl, sym, ◌∙◌, ap, ap₂, subst, arith, inl, inr, length-append, length-drop}
use Rattle.std.specs.Prelude.{slice_range}
use Rattle.std.proofs.lemmas.Bool.{cases_lt, cases_eq}
use Rattle.std.proofs.lemmas.List.{take_at, drop_at, drop-drop}
use Rattle.token_rules.proofs.TokenLemmas.{tokens_are_apart}
use Rattle.var_codec.specs.Codes.{Codes}
use Rattle.var_codec.specs.Laws.{OneWord}
use Rattle.var_codec.specs.declared.Coded.{Coded}
use Rattle.logtype_text.specs.declared.symbols.Kind.{Kind}
use Rattle.logtype_text.specs.Parts.{Part, Constant, Variable, joined, HasKind, kind_of, IsVariableToken, StandAt, symbol_of}
use Rattle.logtype_text.specs.TypeText.{type_text}
use Rattle.logtype_text.specs.Laws.{OneListOfParts, EachVariableIsAPart, SameTypeText}
use Rattle.logtype_text.proofs.PartsLemmas.{size}
use Rattle.logtype_text.proofs.TextLemmas.{one_text}

-- a text has one kind
one_kind : OneWord → (text : List ℕ) (a b : Kind) → HasKind text a → HasKind text b → a ≡ b
one_kind one_word text a b (x, codes, is) (y, codes', is') = sym is ∙ ap kind_of (one_word text x y codes codes') ∙ is'

-- the kind of a coding is the text's kind
pub kind_is : OneWord → (text : List ℕ) (coded : Coded) (kind : Kind) → Codes text coded → HasKind text kind → kind_of coded ≡ kind
kind_is one_word text coded kind codes (x, codes', is) = ap kind_of (one_word text coded x codes codes') ∙ is

-- a variable is not empty
some_text : (body : List ℕ) (at : ℕ) (text : List ℕ) → IsVariableToken body at (at + length text) → 0 < length text
some_text body at text token = omega (arith, token.token.not_empty)

-- two variables at one place have one length
same_length : (body : List ℕ) (at : ℕ) (s t : List ℕ) → IsVariableToken body at (at + length s) → IsVariableToken body at (at + length t) → length s ≡ length t
same_length body at s t one other =
    let not_empty = some_text body at s one in
    let not_empty' = some_text body at t other in
    let ends = (tokens_are_apart body at (at + length s) at (at + length t) one.token other.token (omega arith) (omega arith)).1 in
    omega (arith, ends)

one_list : OneWord → (body : List ℕ) (at : ℕ) (a b : List Part) → StandAt body at a → StandAt body at b → joined a ≡ joined b → a ≡ b
one_list one_word body at [] [] stand stand' same = refl
one_list one_word body at [] (Constant c ∷ b) stand stand' same = cc
one_list one_word body at [] (Variable kind text ∷ b) stand stand' same =
    absurd (omega (arith, some_text body at text stand'.0, ap length same, length-append text (joined b)))
one_list one_word body at (Constant c ∷ a) [] stand stand' same = cc
one_list one_word body at (Variable kind text ∷ a) [] stand stand' same =
    absurd (omega (arith, some_text body at text stand.0, ap length same, length-append text (joined a)))
one_list one_word body at (Constant c ∷ a) (Constant d ∷ b) stand stand' same =
    let heads : c ≡ d = cc in
    let tails : joined a ≡ joined b = cc in
    ap₂ (λ x l. Constant x ∷ l) heads (one_list one_word body (at + 1) a b stand.1 stand'.1 tails)
one_list one_word body at (Constant c ∷ a) (Variable kind text ∷ b) stand stand' same =
    absurd (stand.0 (record { start = at; end = at + length text; holds = stand'.0; low = omega arith; high = omega (arith, some_text body at text stand'.0) }))
one_list one_word body at (Variable kind text ∷ a) (Constant d ∷ b) stand stand' same =
    absurd (stand'.0 (record { start = at; end = at + length text; holds = stand.0; low = omega arith; high = omega (arith, some_text body at text stand.0) }))
one_list one_word body at (Variable k s ∷ a) (Variable l t ∷ b) stand stand' same =
    let long = same_length body at s t stand.0 stand'.0 in
    let texts : s ≡ t = sym (take_at s (joined a) (length t) long) ∙ ap (λ x. take (length t) x) same ∙ take_at t (joined b) (length t) refl in
    let tails : joined a ≡ joined b = sym (drop_at s (joined a) (length t) long) ∙ ap (λ x. drop (length t) x) same ∙ drop_at t (joined b) (length t) refl in
    let kinds = one_kind one_word t k l (subst (λ x. HasKind x k) texts stand.1) stand'.1 in
    let rest = one_list one_word body (at + length t) a b (subst (λ n. StandAt body (at + n) a) long stand.2) stand'.2 tails in
    ap₂ (λ x y. Variable x y ∷ a) kinds texts ∙ ap (λ x. Variable l t ∷ x) rest

pub one_list_of_parts : OneWord → OneListOfParts
one_list_of_parts one_word body a b parts parts' = one_list one_word body 0 a b parts.stand parts'.stand (parts.joins ∙ sym parts'.joins)

-- a variable among the parts that stand from a place on, with the place counted from there
record Found (body : List ℕ) (at : ℕ) (parts : List Part) (start end : ℕ) : Type 0 where
  front : List Part
  kind : Kind
  back : List Part
  cut : parts ≡ front ++ Variable kind (slice_range body start end) ∷ back
  place : at + size front ≡ start

found : (body : List ℕ) (at : ℕ) (parts : List Part) (start end : ℕ) → StandAt body at parts → joined parts ≡ drop at body → at ≤ start → IsVariableToken body start end → Found body at parts start end
found body at [] start end stand joins low token =
    absurd (omega (arith, ap length joins, length-drop at body, token.token.not_empty, token.token.in_range))
found body at (Constant b ∷ parts) start end stand joins low token = elim (cases_eq at start) [
  | inl here ↦ absurd (stand.0 (record { start = start; end = end; holds = token; low = omega (arith, here); high = omega (arith, here, token.token.not_empty) }))
  | inr other ↦
      let rest : joined parts ≡ drop (at + 1) body = ap (λ l. drop 1 l) joins ∙ drop-drop 1 at body in
      let more = found body (at + 1) parts start end stand.1 rest (omega (arith, other)) token in
      record {
        front = Constant b ∷ more.front;
        kind = more.kind;
        back = more.back;
        cut = ap (λ l. Constant b ∷ l) more.cut;
        place = omega (arith, more.place);
      }
]
found body at (Variable k t ∷ parts) start end stand joins low token =
    let rest : joined parts ≡ drop (at + length t) body = sym (drop_at t (joined parts) (length t) refl) ∙ ap (λ l. drop (length t) l) joins ∙ drop-drop (length t) at body in
    elim (cases_lt start (at + length t)) [
      | inl overlap ↦
          let same = tokens_are_apart body at (at + length t) start end stand.0.token token.token (omega (arith, token.token.not_empty)) overlap in
          let long : end - start ≡ length t = omega (arith, same.0, same.1) in
          let text : t ≡ slice_range body start end = sym (take_at t (joined parts) (length t) refl) ∙ ap₂ (λ n l. take n l) (sym long) joins ∙ ap (λ n. take (end - start) (drop n body)) same.0 in
          record { front = []; kind = k; back = parts; cut = ap (λ x. Variable k x ∷ parts) text; place = omega (arith, same.0) }
      | inr beyond ↦
          let more = found body (at + length t) parts start end stand.2 rest beyond token in
          record {
            front = Variable k t ∷ more.front;
            kind = more.kind;
            back = more.back;
            cut = ap (λ l. Variable k t ∷ l) more.cut;
            place = omega (arith, more.place, length-append t (joined more.front));
          }
    ]

pub each_variable_is_a_part : EachVariableIsAPart
each_variable_is_a_part body parts start end are token =
    let it = found body 0 parts start end are.stand are.joins (omega arith) token in
    record { front = it.front; kind = it.kind; back = it.back; cut = it.cut; place = omega (arith, it.place) }

pub same_type_text : SameTypeText
same_type_text a b = (one_text (map symbol_of a) (map symbol_of b), λ same. ap type_text same)
