use Rattle.std.proofs.Common.{◌≡◌, ◌+◌, ◌-◌, ◌<◌, ◌≤◌, leb, length, drop, slice_index, slice_range, subst, arith, rules}
use Rattle.std.proofs.lemmas.List.Sorted.{IsNonDecreasingBy-from_default, IsNonDecreasingBy-take, IsNonDecreasingBy-drop, IsPartitionedBy-leb, IsPartitionPoint-from_clause}
use Rattle.std.proofs.lemmas.Bool.{cases_lt}
use Rattle.std.proofs.Common.{⊎_elim}
use Rattle.dict_core.proofs.SearchLemmas.{held}
use Rattle.dict_core.proofs.search.holder.Goals as goal
use Rattle.dict_core.proofs.search.holder.Goals.{then-loop-step-test+else-ends-low, else-loop-step-test}

pub returns : goal.returns
returns c =
    let ends = c.args.ends.now in let at = c.args.at in
    let low = c.loop-step.low in let high = c.min-high.result in
    let so_far = c.loop-step.invariant in
    let part = slice_range ends low high in
    let rises = IsNonDecreasingBy-from_default (λ e. e) ends 0 c.requires.rise in
    let sorted = IsNonDecreasingBy-take (λ e. e) (high - low) (drop low ends) (IsNonDecreasingBy-drop (λ e. e) low ends rises) in
    let point = IsPartitionPoint-from_clause (λ e. leb e at) part c.partition_point.result c.partition_point.ensures.partitioned (IsPartitionedBy-leb (λ e. e) part at sorted) (λ a r q k. search rules) in
    let some : low < high = omega (arith, c.min-high.ensures, so_far.within, so_far.some) in
    let within : high ≤ length ends = omega (arith, c.min-high.ensures) in
    let past : at < slice_index ends (high - 1) = elim c.loop-step-test.branch [
      | then-loop-step-test+else-ends-low w ↦
          let same : low + c.loop-step.step - 1 ≡ high - 1 = omega (arith, c.min-high.ensures, w.loop-step-test.true) in
          subst (λ n. at < slice_index ends n) same w.if-ends-low.false
      | else-loop-step-test w ↦
          let same : length ends - 1 ≡ high - 1 = omega (arith, c.min-high.ensures, w.loop-step-test.false, so_far.within) in
          subst (λ n. at < slice_index ends n) same c.requires.within
    ] in
    let found = held ends at low high c.partition_point.result some within past point c.partition_point.ensures.bound in record {
      low = omega (arith, so_far.low);
      high = omega (arith, found.0, within);
      before = λ k from below. ⊎_elim (λ l. so_far.before k from l) (λ l. found.1 k l below) (cases_lt k low);
      past = found.2;
    }
