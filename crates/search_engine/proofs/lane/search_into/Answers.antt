use Rattle.std.proofs.Common.{ap, rules, subst, sym, [], List, ℕ}
use Rattle.std.specs.Prelude.{Some}
use Rattle.search_walk.specs.Opened.{NoFronts, ReadsFronts}
use Rattle.search_walk.specs.Held.{Named, named}
use Rattle.search_walk.specs.Ready.{Serves}
use Rattle.search_walk.specs.StepsScope.{Scope, scope}
use Rattle.std.proofs.lemmas.Result.{err_from_is_err_and}
use Rattle.search_engine.specs.SegmentsDone.{SearchedFronts, StoppedFronts}
use Rattle.search_engine.specs.Served.{IsServed}
use Rattle.search_engine.specs.Waiting.{Blames, Halts, Pending, Reaches, state}
use Rattle.search_engine.proofs.LaneLemmas.{into_blamed, into_cut, into_done, into_stopped, lane_search_cut, lane_search_err, lane_search_ok}
use Rattle.search_engine.proofs.SearchLemmas.{waits_none}
use Rattle.search_engine.proofs.ServedLemmas.{served_none}
use Rattle.search_engine.proofs.lane.search_into.Goals as goal

pub print_segments-requires-clause-served : goal.print_segments-requires-clause-served
print_segments-requires-clause-served g c =
    let n : Named = named (g.P.Disk.state c.args.part.now).seen c.args.first.now in
    subst (λ (s : Scope). IsServed s.names s.query c.args.held.now c.new-batch.result.pages) (sym c.context-context.ensures)
    (served_none n c.args.lane.query.now c.args.held.now c.new-batch.result.pages c.requires.serves (ap (λ (p : Pending). p.pages) c.new-batch.ensures))

pub print_segments-requires-clause-told : goal.print_segments-requires-clause-told
print_segments-requires-clause-told g c = ap (λ (s : Scope). s.names.told) (sym c.context-context.ensures)

pub returns-in_err-count-clause-ran : goal.returns-in_err-count-clause-ran
returns-in_err-count-clause-ran g c =
    let d = g.P.Disk.state c.args.part.now in
    let y = c.new-batch.result in
    let p = err_from_is_err_and c.from_residual.result c.from_residual.ensures.1 in
    lane_search_err d (g.P.Disk.state c.print_segments.new.disk) (scope (named d.seen c.args.first.now) c.args.lane.query.now c.args.lane.files.now) c.args.fronts.now c.print_segments.new.out.text.items c.in_err-count.field-0.0 c.from_residual.result (cc (p.1, p.2))
    c.print_segments.ensures.rests
    (subst (λ (s : Scope). ReadsFronts d (g.P.Disk.state c.print_segments.new.disk) s.names s.files s.query c.args.fronts.now) c.context-context.ensures c.print_segments.ensures.reads)
    (into_stopped d.seen (named d.seen c.args.first.now) c.args.lane.files.now c.args.lane.query.now c.args.fronts.now c.print_segments.new.out.text.items y c.new-expanded.result _ _ _ c.new-batch.ensures
    (subst (λ (l : List ℕ). StoppedFronts d.seen (named d.seen c.args.first.now) c.args.lane.files.now c.args.lane.query.now c.args.fronts.now (state (Some l) y c.new-expanded.result) (Some c.print_segments.new.out.text.items) c.print_segments.new.expanded c.new-opened.result c.print_segments.new.opened) c.requires.empty
    (subst (λ (s : Scope). StoppedFronts d.seen s.names s.files s.query c.args.fronts.now (state (Some c.args.sink.now.text.items) y c.new-expanded.result) (Some c.print_segments.new.out.text.items) c.print_segments.new.expanded c.new-opened.result c.print_segments.new.opened) c.context-context.ensures c.in_err-count.ensures.stopped)))
    (λ is. subst (λ (s : Scope). NoFronts d.seen s.names s.files c.args.fronts.now) c.context-context.ensures (c.in_err-count.ensures.damaged is [] (waits_none _ c.new-batch.result c.new-batch.ensures)))
    c.in_err-count.ensures.disk_counts

pub returns-in_err-finish-clause-ran : goal.returns-in_err-finish-clause-ran
returns-in_err-finish-clause-ran g c =
    let d = g.P.Disk.state c.args.part.now in
    let n = named d.seen c.args.first.now in
    let y = c.new-batch.result in
    let a = state (Some c.args.sink.now.text.items) y c.new-expanded.result in
    let b = state (Some c.print_segments.new.out.text.items) c.print_segments.new.batch c.print_segments.new.expanded in
    let p = err_from_is_err_and c.from_residual-in_err-finish.result c.from_residual-in_err-finish.ensures.1 in
    lane_search_cut d (g.P.Disk.state c.print_segments.new.disk) (scope n c.args.lane.query.now c.args.lane.files.now) c.args.fronts.now c.finish.new.out.text.items c.in_err-finish.field-0.0 c.from_residual-in_err-finish.result (cc (p.1, p.2))
    c.print_segments.ensures.rests
    (subst (λ (s : Scope). ReadsFronts d (g.P.Disk.state c.print_segments.new.disk) s.names s.files s.query c.args.fronts.now) c.context-context.ensures c.print_segments.ensures.reads)
    (into_cut d.seen n c.args.lane.files.now c.args.lane.query.now c.args.fronts.now c.finish.new.out.text.items y b c.new-expanded.result c.finish.new.expanded c.new-opened.result c.print_segments.new.opened c.in_ok-count.count c.new-batch.ensures
    (subst (λ (l : List ℕ). SearchedFronts d.seen n c.args.lane.files.now c.args.lane.query.now c.args.fronts.now (state (Some l) y c.new-expanded.result) b c.new-opened.result c.print_segments.new.opened c.in_ok-count.count) c.requires.empty
    (subst (λ (s : Scope). SearchedFronts d.seen s.names s.files s.query c.args.fronts.now a b c.new-opened.result c.print_segments.new.opened c.in_ok-count.count) c.context-context.ensures c.in_ok-count.ensures.done))
    (subst (λ (s : Scope). Halts s.names s.query [] b (Some c.finish.new.out.text.items) c.finish.new.expanded) c.context-context.ensures c.in_err-finish.ensures.stopped))
    (λ is. into_blamed d.seen n c.args.lane.files.now c.args.lane.query.now c.args.fronts.now a b c.new-opened.result c.print_segments.new.opened c.in_ok-count.count c.new-batch.ensures
    (subst (λ (s : Scope). SearchedFronts d.seen s.names s.files s.query c.args.fronts.now a b c.new-opened.result c.print_segments.new.opened c.in_ok-count.count) c.context-context.ensures c.in_ok-count.ensures.done)
    (subst (λ (s : Scope). Blames s.names c.print_segments.new.batch.pages ⊥) c.context-context.ensures (c.in_err-finish.ensures.damaged is)))
    c.in_ok-count.ensures.disk_counts.later c.in_ok-count.ensures.disk_counts.steady c.in_err-finish.ensures.disk

pub returns-clause-serves : goal.returns-clause-serves
returns-clause-serves g c = subst (λ (s : Scope). Serves s.names c.print_segments.new.held) c.context-context.ensures c.in_ok-count.ensures.served.serves

pub returns-clause-ran : goal.returns-clause-ran
returns-clause-ran g c =
    let d = g.P.Disk.state c.args.part.now in
    let n = named d.seen c.args.first.now in
    let y = c.new-batch.result in
    let b = state (Some c.print_segments.new.out.text.items) c.print_segments.new.batch c.print_segments.new.expanded in
    lane_search_ok d (g.P.Disk.state c.print_segments.new.disk) (scope n c.args.lane.query.now c.args.lane.files.now) c.args.fronts.now c.finish.new.out.text.items _
    c.print_segments.ensures.rests
    (subst (λ (s : Scope). ReadsFronts d (g.P.Disk.state c.print_segments.new.disk) s.names s.files s.query c.args.fronts.now) c.context-context.ensures c.print_segments.ensures.reads)
    (into_done d.seen n c.args.lane.files.now c.args.lane.query.now c.args.fronts.now c.finish.new.out.text.items y c.finish.new.self b _ c.new-expanded.result c.finish.new.expanded c.new-opened.result c.print_segments.new.opened c.in_ok-count.count _ c.new-batch.ensures
    (subst (λ (l : List ℕ). SearchedFronts d.seen n c.args.lane.files.now c.args.lane.query.now c.args.fronts.now (state (Some l) y c.new-expanded.result) b c.new-opened.result c.print_segments.new.opened c.in_ok-count.count) c.requires.empty
    (subst (λ (s : Scope). SearchedFronts d.seen s.names s.files s.query c.args.fronts.now (state (Some c.args.sink.now.text.items) y c.new-expanded.result) b c.new-opened.result c.print_segments.new.opened c.in_ok-count.count) c.context-context.ensures c.in_ok-count.ensures.done))
    (subst (λ (s : Scope). Reaches s.names s.query [] b (state (Some c.finish.new.out.text.items) c.finish.new.self c.finish.new.expanded)) c.context-context.ensures c.in_ok-finish.ensures.done)
    c.in_ok-finish.ensures.empty.0 c.in_ok-finish.ensures.empty.1 c.counts.ensures (search rules))
    (search rules) c.in_ok-count.ensures.disk_counts.later c.in_ok-count.ensures.disk_counts.steady
