use Rattle.std.proofs.Common.{ap, rules, subst, sym}
use Rattle.std.proofs.lemmas.Result.{err_from_is_err_and}
use Rattle.search_walk.specs.Held.{named}
use Rattle.search_walk.specs.Opened.{NoFronts, ReadsFronts}
use Rattle.search_walk.specs.Ready.{Serves}
use Rattle.search_walk.specs.StepsScope.{Scope, scope}
use Rattle.group_count.specs.StepsServed.{IsServed, IsWay}
use Rattle.group_count.proofs.LaneLemmas.{counted_from, lane_count_err, lane_count_none, lane_count_ok}
use Rattle.group_count.proofs.lane.count_part.Goals as goal

pub returns-in_err-held : goal.returns-in_err-held
returns-in_err-held g c = lane_count_none g.T.RowTable.counted (g.P.Disk.state c.args.part.now) _ c.args.fronts.now c.args.empty.now.like c.from_residual.result (search rules)

pub count_segments-requires-clause-served : goal.count_segments-requires-clause-served
count_segments-requires-clause-served g c =
    subst (λ (s : Scope). IsServed s c.in_ok-held.held c.new-counter.result.way) (sym c.context-context.ensures)
    (record { serves = subst (Serves (named (g.P.Disk.state c.args.part.now).seen c.args.first.now)) (sym c.in_ok-held.ensures) c.requires.serves; way = subst (IsWay c.args.lane.query.now) (sym c.new-counter.ensures.way) c.requires.way })

pub count_segments-requires-clause-told : goal.count_segments-requires-clause-told
count_segments-requires-clause-told g c = ap (λ (s : Scope). s.names.told) (sym c.context-context.ensures)

pub returns-in_err-count : goal.returns-in_err-count
returns-in_err-count g c =
    let d = g.P.Disk.state c.args.part.now in
    let p = err_from_is_err_and c.from_residual-in_err-count.result c.from_residual-in_err-count.ensures.1 in
    lane_count_err g.T.RowTable.counted d (g.P.Disk.state c.count_segments.new.disk) (scope (named d.seen c.args.first.now) c.args.lane.query.now c.args.lane.files.now) c.args.fronts.now c.args.empty.now.like c.in_err-count.field-0.0 c.from_residual-in_err-count.result (cc (p.1, p.2))
    c.count_segments.ensures.rests
    (subst (λ (s : Scope). ReadsFronts d (g.P.Disk.state c.count_segments.new.disk) s.names s.files s.query c.args.fronts.now) c.context-context.ensures c.count_segments.ensures.reads)
    (λ is. subst (λ (s : Scope). NoFronts d.seen s.names s.files c.args.fronts.now) c.context-context.ensures (c.in_err-count.ensures.damaged is))
    c.in_err-count.ensures.disk_counts c.in_err-count.ensures.sink

pub returns : goal.returns
returns g c =
    let d = g.P.Disk.state c.args.part.now in
    lane_count_ok g.T.RowTable.counted d (g.P.Disk.state c.count_segments.new.disk) (scope (named d.seen c.args.first.now) c.args.lane.query.now c.args.lane.files.now) c.args.fronts.now c.args.empty.now.like _
    c.count_segments.ensures.rests
    (subst (λ (s : Scope). ReadsFronts d (g.P.Disk.state c.count_segments.new.disk) s.names s.files s.query c.args.fronts.now) c.context-context.ensures c.count_segments.ensures.reads)
    (record {
      start = c.like.result;
      is_like = c.like.ensures;
      later = c.count_segments.new.opened;
      ticks = c.count_segments.new.expanded;
      searched =
          counted_from g.T.RowTable.counted d.seen c.context-context.result (scope (named d.seen c.args.first.now) c.args.lane.query.now c.args.lane.files.now) c.args.fronts.now c.new-counter.result.counts c.count_segments.new.counter.counts c.into_counts.result c.new-expanded.result
          c.count_segments.new.expanded c.new-opened.result c.count_segments.new.opened _ c.like.result c.context-context.ensures c.new-counter.ensures.table c.new-counter.ensures.matched c.new-counter.ensures.expanded c.new-expanded.ensures c.new-opened.ensures c.into_counts.ensures
          c.in_ok-count.ensures.done;
    })
    (search rules)
