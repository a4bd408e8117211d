use Rattle.std.proofs.Common.{rules, ◌≡◌, ℕ, List, length, take, drop, ◌∙◌, ap, arith, refl, sym}
use Rattle.std.proofs.lemmas.List.{take-append-drop, take_at}
use Rattle.segment_format.specs.Layout.{head_bytes}
use Rattle.live_search.proofs.PartLemmas.{front_is, head_inside, no_fixed}
use Rattle.live_search.proofs.part.front_of.Goals as goal

pub returns-then-payload-lt-FIXED_LEN-clause-none : goal.returns-then-payload-lt-FIXED_LEN-clause-none
returns-then-payload-lt-FIXED_LEN-clause-none c = λ h has.
    let long = head_inside c.args.payload.now h has in
    omega (arith, long.0)

pub returns-in_default-clause-none : goal.returns-in_default-clause-none
returns-in_default-clause-none c = λ h has. no_fixed c.args.payload.now _ h has (c.in_default.ensures.none refl) (search rules)

pub returns-then-len-payload-clause-none : goal.returns-then-len-payload-clause-none
returns-then-len-payload-clause-none c = λ h has.
    let long = head_inside c.args.payload.now h has in
    let n = front_is c.args.payload.now _ h c.in-Some.len has (search rules) c.in-Some.ensures.some in
    omega (arith, long.1, n)

pub returns-clause-some : goal.returns-clause-some
returns-clause-some c = λ h has.
    let n : c.in-Some.len ≡ length (head_bytes h) = front_is c.args.payload.now _ h c.in-Some.len has (search rules) c.in-Some.ensures.some in
    ap (λ (l : List ℕ). take c.in-Some.len l) has.spells ∙ take_at (head_bytes h) has.rest c.in-Some.len (sym n)

pub returns-clause-begins : goal.returns-clause-begins
returns-clause-begins c = (drop c.in-Some.len c.args.payload.now, take-append-drop c.in-Some.len c.args.payload.now)
