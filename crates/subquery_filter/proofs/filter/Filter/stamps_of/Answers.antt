use Rattle.subquery_filter.proofs.StampLemmas.{bring_none, bring_within}
use Rattle.subquery_filter.proofs.filter.Filter.stamps_of.Goals as goal

pub returns-then-not-head : goal.returns-then-not-head
returns-then-not-head c = bring_none c.args.self.now c.args.head.now c.mark_at-none.result (rw c.as_slice-stamps.ensures.value at c.mark_at-none.ensures) c.if-not-head.true

pub returns : goal.returns
returns c =
    bring_within c.args.self.now c.args.head.now c.mark_at-none.result c.bits_within.result (rw c.as_slice-stamps.ensures.value at c.mark_at-none.ensures)
    (rw (c.as_slice-stamps.ensures.value, c.as_slice.ensures.value) at c.bits_within.ensures)
