use Rattle.std.proofs.Common.{arith}
use Rattle.subquery_filter.proofs.MarkLemmas.{lists_end, lists_step, token_at}
use Rattle.subquery_filter.proofs.marks.add_lists.Goals as goal

pub loop-place-init : goal.loop-place-init
loop-place-init c = λ j k lt at. absurd (omega (arith, lt))

pub loop-place-preserved : goal.loop-place-preserved
loop-place-preserved c =
    let l = c.loop-place in
    let new = c.add_list.new.table.items in
    lists_step l.table.items new c.args.mask c.args.tokens.now c.args.lists.now l.place c.index-tokens-place.result
    (token_at c.args.tokens.now l.place c.index-tokens-place.result c.loop-place-test.true c.index-tokens-place.is) c.in_ok-add_list.ensures.keeps c.in_ok-add_list.ensures.added l.invariant

pub returns : goal.returns
returns c = lists_end c.loop-place.table.items c.args.mask c.args.tokens.now c.args.lists.now c.loop-place.place c.loop-place-test.false c.loop-place.invariant
