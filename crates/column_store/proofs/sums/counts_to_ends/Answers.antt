use Rattle.std.proofs.Common.{◌≡◌, ◌≢◌, ◌+◌, ◌<◌, get_or, set, take, sum, length, arith, below_more, get_or-set_same, get_or-set_other, length-set}
use Rattle.std.proofs.lemmas.List.Sums.{sum_by_more, sum_by_more_le}
use Rattle.column_store.proofs.RowsLemmas.{same_at, kept_after}
use Rattle.column_store.proofs.sums.counts_to_ends.Goals as goal

pub returns-in_err-total-clause-none : goal.returns-in_err-total-clause-none
returns-in_err-total-clause-none c = λ _.
    let old = c.args.counts.items in
    let i = c.loop-end.end-index in
    let here : get_or c.loop-end.end-items i 0 ≡ get_or old i 0 = same_at c.loop-end.end-items old i 0 c.loop-end.invariant.2 in
    let most = sum_by_more_le (λ x. x) old i 0 (omega arith) in
    omega (arith, here, most, c.in_err-total.ensures, c.loop-end.invariant.0)

pub loop-end-preserved : goal.loop-end-preserved
loop-end-preserved c =
    let old = c.args.counts.items in
    let now = c.loop-end.end-items in
    let i = c.loop-end.end-index in
    let total = c.in_ok-total.total in
    let lt : i < length now = omega arith in
    let here : get_or now i 0 ≡ get_or old i 0 = same_at now old i 0 c.loop-end.invariant.2 in
    let more : sum (take (i + 1) old) ≡ sum (take i old) + get_or old i 0 = sum_by_more (λ x. x) old i 0 (omega arith) in
    let sums : total ≡ sum (take (i + 1) old) = omega (arith, here, more, c.in_ok-total.ensures, c.loop-end.invariant.0) in (
      sums,
      below_more
          (λ k. get_or (set now i total) k 0 ≡ sum (take (k + 1) old))
          i
          (λ k h. let ne : k ≢ i = omega arith in rw get_or-set_other (c.loop-end.invariant.1 k h))
          (rw get_or-set_same sums),
      kept_after now old i total c.loop-end.invariant.2,
      omega (arith, length-set now i total, c.loop-end.invariant.3),
    )
