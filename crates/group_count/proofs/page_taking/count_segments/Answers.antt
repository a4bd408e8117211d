use Rattle.std.proofs.Common.{rules}
use Rattle.search_walk.proofs.AnswerLemmas.{if_ok_to, on_err_to}
use Rattle.group_count.proofs.WalkedLemmas.{counted_so, never_rose, stopped_so}
use Rattle.group_count.proofs.page_taking.count_segments.Goals as goal

pub returns-clause-kept : goal.returns-clause-kept
returns-clause-kept g c = if_ok_to c.visit_segments.result _ _ (λ _ served. served.serves.kept) c.visit_segments.ensures.served

pub returns-clause-done : goal.returns-clause-done
returns-clause-done g c =
    let n = c.args.context.now.names in
    let w = c.new-counting.result in
    let v = c.visit_segments.new.work in
    if_ok_to c.visit_segments.result _ _
    (λ count has. counted_so g.T.RowTable.counted _ n c.args.context.now.files c.args.context.now.query c.args.fronts.now w.counter.now.counts c.args.counter.now.counts v.counter.now.counts _ w.expanded.now c.args.expanded.now v.expanded.now _ _ _ count
    (search rules) (search rules) (search rules) (search rules) has) c.visit_segments.ensures.done

pub returns-clause-stopped : goal.returns-clause-stopped
returns-clause-stopped g c =
    let n = c.args.context.now.names in
    let w = c.new-counting.result in
    let v = c.visit_segments.new.work in
    on_err_to c.visit_segments.result _ _
    (λ has. stopped_so _ n c.args.context.now.files c.args.context.now.query c.args.fronts.now w.expanded.now c.args.expanded.now v.expanded.now _ _ _ (search rules) (search rules) has) c.visit_segments.ensures.stopped

pub returns-clause-damaged : goal.returns-clause-damaged
returns-clause-damaged g c = λ is. c.visit_segments.ensures.damaged is tt

pub returns-clause-sink : goal.returns-clause-sink
returns-clause-sink g c = λ is. never_rose (c.visit_segments.ensures.sink_counts.failed is)
