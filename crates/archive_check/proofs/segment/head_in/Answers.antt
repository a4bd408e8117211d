use Rattle.std.proofs.Common.{rules, ◌≡◌, ℕ, List, length, take, ◌∙◌, ap, arith, refl, sym}
use Rattle.std.proofs.lemmas.List.{take_at}
use Rattle.segment_format.specs.Layout.{head_bytes}
use Rattle.archive_check.proofs.SegmentLemmas.{front_is, head_inside, no_fixed}
use Rattle.archive_check.proofs.segment.head_in.Goals as goal

pub returns-then-payload-lt-FIXED_LEN-clause-none : goal.returns-then-payload-lt-FIXED_LEN-clause-none
returns-then-payload-lt-FIXED_LEN-clause-none c = λ h rest is_head is.
    let long = head_inside c.args.payload.now rest h is in
    omega (arith, long.0)

pub returns-in_default-clause-none : goal.returns-in_default-clause-none
returns-in_default-clause-none c = λ h rest is_head is. no_fixed c.args.payload.now rest _ h is_head is (c.in_default.ensures.none refl) (search rules)

pub returns-then-len-payload-clause-none : goal.returns-then-len-payload-clause-none
returns-then-len-payload-clause-none c = λ h rest is_head is.
    let long = head_inside c.args.payload.now rest h is in
    let n = front_is c.args.payload.now rest _ h c.in-Some.len is_head is (search rules) c.in-Some.ensures.some in
    omega (arith, long.1, n)

pub returns-clause-some : goal.returns-clause-some
returns-clause-some c = λ h rest is_head is.
    let n : c.in-Some.len ≡ length (head_bytes h) = front_is c.args.payload.now rest _ h c.in-Some.len is_head is (search rules) c.in-Some.ensures.some in
    ap (λ (l : List ℕ). take c.in-Some.len l) is ∙ take_at (head_bytes h) rest c.in-Some.len (sym n)
