use Rattle.std.proofs.Common.{◌≡◌, [], ◌∷◌, drop, refl, subst, sym, ◌∙◌}
use Rattle.std.specs.Prelude.{◌↔◌, IsTrue}
use Rattle.query_plan.specs.Slots.{MayBegin, MayStand}
use Rattle.query_plan.proofs.SlotLemmas.{AreLeft, empty_stands, none_left, passed_then, refused_then, stands_here}
use Rattle.query_plan.proofs.StandingLemmas.{ahead_is, refused, stands_there}
use Rattle.query_plan.proofs.slots.begins_somewhere.Goals as goal

pub returns-then-may_begin : goal.returns-then-may_begin
returns-then-may_begin c = λ symbols typed.
    let left = c.loop-symbol.invariant symbols typed in
    (λ yes. left.2.1 (stands_here c.args.text.now left.0 ((c.may_begin.ensures left.0 left.1).0 c.if-may_begin.true)), λ m. refl)

pub returns-then-not-needs_escape : goal.returns-then-not-needs_escape
returns-then-not-needs_escape c =
    stands_there c.in-Some.first.now c.args.text.now c.args.log_type.now c.in-Some._behind.now c.in-Some.ensures.cases.0
    (c.is_delim.ensures.0 c.if-is_delim.true, sym c.needs_escape.ensures ∙ c.if-not-needs_escape.true)
    c.begins_at.result c.begins_at.ensures.found c.begins_at.ensures.missed

pub returns-in_default : goal.returns-in_default
returns-in_default c = λ symbols typed. (λ yes. empty_stands c.args.text.now c.in_default.ensures.cases symbols, λ m. refl)

pub loop-symbol-preserved : goal.loop-symbol-preserved
loop-symbol-preserved c = λ symbols typed.
    let text = c.args.text.now in
    let first = c.in-Some.first.now in
    let behind = c.in-Some._behind.now in
    let cut : text ≡ first ∷ behind = c.in-Some.ensures.cases.0 in
    let rest = c.loop-symbol.rest.now in
    let after = c.in-Some-first_symbol.after.now in
    let P = MayStand text symbols in
    let left = refused_then P text rest c.in-Some-first_symbol._symbol after c.in-Some-first_symbol.ensures.some
    (λ others spelled. refused c.may_begin.result (MayBegin text others) c.if-may_begin.false (c.may_begin.ensures others spelled).1)
    (c.loop-symbol.invariant symbols typed) in
    let passed = passed_then P first behind after c.next_start.result c.next_start.ensures.within c.next_start.ensures.passed
    (subst (λ w. AreLeft P (MayStand w) after) cut left) in
    subst (λ r. AreLeft P (MayStand text) r) (sym (ahead_is after c.next_start.result))
    (subst (λ w. AreLeft P (MayStand w) (drop c.next_start.result after)) (sym cut) passed)

pub returns : goal.returns
returns c = λ symbols typed.
    let text = c.args.text.now in
    let left = c.loop-symbol.invariant symbols typed in
    let end : left.0 ≡ [] = none_left c.loop-symbol.rest.now c.in_default-first_symbol.ensures.none left.0 left.1 in
    let begins = subst (λ x. IsTrue c.may_begin-2.result ↔ MayBegin text x) end (c.may_begin-2.ensures left.0 left.1) in
    let stands = subst (λ x. MayStand text symbols ↔ MayStand text x) end left.2 in
    (λ yes. stands.1 (begins.0 yes), λ m. begins.1 (stands.0 m))
