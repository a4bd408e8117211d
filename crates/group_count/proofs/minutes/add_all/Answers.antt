use Rattle.std.proofs.Common.{◌≡◌, ℕ, ℤ, List, rules, subst, sym}
use Rattle.std.specs.Int.{w64}
use Rattle.std.specs.Int.RustNames.{FitsSigned}
use Rattle.std.specs.Ordering.{int_cmp}
use Rattle.std.specs.Map.Iter.{deref_pair}
use Rattle.std.proofs.lemmas.Int.{to_z-of_z}
use Rattle.std.proofs.lemmas.Map.Iter.{rest_more}
use Rattle.std.proofs.lemmas.Map.Keys.{IsDistinct-from_sorted}
use Rattle.std.specs.Map.{keys_of}
use Rattle.group_count.proofs.JoinLemmas.{AddedSoFar, so_far_end, so_far_first, so_far_next}
use Rattle.group_count.proofs.minutes.add_all.Goals as goal

pub loop-minute-init : goal.loop-minute-init
loop-minute-init c = λ often others fits tally are.
    let same : c.into_iter-minute-iterator.result ≡ c.args.more.now.entries = search rules in
    subst (λ (l : List (ℤ × ℕ)). AddedSoFar often others c.args.minutes.now.entries l) (sym same)
    (so_far_first often others c.args.minutes.now.entries c.args.more.now.entries (IsDistinct-from_sorted int_cmp (keys_of c.args.more.now.entries) (search rules)) tally are)

pub loop-minute-preserved : goal.loop-minute-preserved
loop-minute-preserved c = λ often others fits tally are.
    let left = rest_more deref_pair c.loop-minute.minute-iterator c.next.new.self c.next.result (c.in-Some.minute, c.in-Some.count) c.in-Some.is c.next.ensures.steps in
    let inside : FitsSigned w64 c.in-Some.minute.now = search rules in
    let put = rw (to_z-of_z w64 c.in-Some.minute.now inside) at c.in_ok-put_run.ensures in
    so_far_next often others c.loop-minute.minutes.entries c.put_run.new.minutes.entries c.loop-minute.minute-iterator c.next.new.self c.in-Some.minute.now c.in-Some.count.now left fits put
    (c.loop-minute.invariant often others fits tally are)

pub returns : goal.returns
returns c = λ often others fits tally are.
    so_far_end often others c.loop-minute.minutes.entries c.loop-minute.minute-iterator (search rules) (c.loop-minute.invariant often others fits tally are)
