use Rattle.std.proofs.Common.{refl, rules, subst, sym}
use Rattle.search_walk.proofs.AnswerLemmas.{on_err}
use Rattle.search_walk.specs.Opened.{NoFronts}
use Rattle.std.proofs.lemmas.Result.{err_from_is_err_and}
use Rattle.group_count.specs.StepsLanes.{fronts_of}
use Rattle.group_count.proofs.LaneLemmas.{counts_err, counts_ok, unticked, went_all}
use Rattle.group_count.proofs.beside.count_lent.Goals as goal

pub returns-in_err-sums-clause-stopped : goal.returns-in_err-sums-clause-stopped
returns-in_err-sums-clause-stopped g c =
    let s = c.args.context.now in
    on_err c.from_residual.result _ (unticked _ s.names s.files s.query _ c.args.expanded.now c.args.expanded.now c.args.opened.now c.args.opened.now refl refl)

pub returns-in_err-sums-clause-damaged : goal.returns-in_err-sums-clause-damaged
returns-in_err-sums-clause-damaged g c = λ is.
    let s = c.args.context.now in
    subst (λ x. NoFronts x s.names s.files (fronts_of c.args.lanes.items)) (sym c.requires.told) (c.in_err-sums.ensures.damaged (search (rules, is)))

pub returns-clause-done : goal.returns-clause-done
returns-clause-done g c =
    went_all g.T.RowTable.counted c.args.context.now _ c.args.counts.now c.sum_lanes.new.counts c.in_ok-sums.sums _ c.args.expanded.now c.tick_times-2.new.steps c.args.opened.now c.tick_times.new.steps c.requires.told c.requires.few c.tick_times-2.ensures c.tick_times.ensures
    c.in_ok-sums.ensures.done

pub returns-in_err-sums-clause-disk_counts : goal.returns-in_err-sums-clause-disk_counts
returns-in_err-sums-clause-disk_counts g c =
    let p = err_from_is_err_and c.from_residual.result c.from_residual.ensures.1 in
    counts_err _ _ _ c.in_err-sums.field-0.0 c.from_residual.result (cc (p.1, p.2)) c.in_err-sums.ensures.disk_counts

pub returns-clause-disk_counts : goal.returns-clause-disk_counts
returns-clause-disk_counts g c = counts_ok _ _ _ c.in_ok-sums.sums _ c.in_ok-sums.ensures.disk_counts
