use Rattle.std.proofs.Common.{subst, sym}
use Rattle.search_meaning.specs.Journal.{OfJournal}
use Rattle.search_walk.proofs.AnswerLemmas.{on_err}
use Rattle.group_count.specs.declared.counts.Counts.{Counts}
use Rattle.group_count.specs.StepsArchive.{HasCounted}
use Rattle.group_count.specs.StepsCounted.{sofar}
use Rattle.group_count.specs.Tables.{MinuteState}
use Rattle.group_count.proofs.GroupedLemmas.{all_minutes, all_stopped, counted_minutes, micro_is}
use Rattle.group_count.proofs.grouping.group_minutes.Goals as goal

pub returns-in_err-grouped-clause-stopped : goal.returns-in_err-grouped-clause-stopped
returns-in_err-grouped-clause-stopped g c =
    on_err c.from_residual-in_err-grouped.result _
    (all_stopped (g.D.Disk.state c.args.disk.now).seen c.args.places c.requires.opens c.args.query.now c.in_ok-gone.gone c.args.expanded.now c.count_archive.new.expanded c.args.opened.now c.count_archive.new.opened counted_minutes c.new-counter.result.counts
    c.count_archive.new.counter.counts c.in_ok-gone.ensures.done)

pub returns-clause-done : goal.returns-clause-done
returns-clause-done g c =
    let seen = (g.D.Disk.state c.args.disk.now).seen in
    let q = c.args.query.now in
    let gone = c.in_ok-gone.gone in
    let k = c.new-counter.result.counts in
    let e0 = c.args.expanded.now in
    let e1 = c.count_archive.new.expanded in
    let o0 = c.args.opened.now in
    let o1 = c.count_archive.new.opened in
    all_minutes seen c.args.places c.requires.opens q gone e0 e1 o0 o1 c.rows_have_keys.ensures.minutes c.new-table.result k c.into_counts.result c.in_ok-grouped.grouped c.new-counter.ensures.table (micro_is c.new-table.result.micro _ c.new-table.ensures.micro) c.new-table.ensures.nothing
    c.new-counter.ensures.matched c.new-counter.ensures.expanded c.in_ok-grouped.ensures.report c.in_ok-grouped.ensures.groups c.in_ok-grouped.ensures.keys c.in_ok-grouped.ensures.without
    (subst (λ (m : Counts MinuteState). OfJournal seen (λ h es held. HasCounted counted_minutes h es held q gone (sofar k e0) (sofar m e1) o0 o1)) (sym c.into_counts.ensures) c.in_ok-gone.ensures.done)
