use Rattle.std.proofs.Common.{rules, subst, sym}
use Rattle.log_seams.proofs.MomentLemmas.{rests_on}
use Rattle.word_places.specs.Places.{AreInOrder, OfWords}
use Rattle.search_walk.proofs.AnswerLemmas.{on_err}
use Rattle.group_count.specs.Tables.{AreGroupsBy, LackTexts}
use Rattle.group_count.proofs.GroupedLemmas.{all_stopped, all_types, all_types_damaged, counted_types, kept_at, types_read_again}
use Rattle.group_count.proofs.grouping.group_types.Goals as goal

pub types_of-requires-clause-order : goal.types_of-requires-clause-order
types_of-requires-clause-order g c = subst (AreInOrder 0) (sym c.in_ok-gone.ensures.held.places) c.requires.order.0

pub types_of-requires-clause-kept : goal.types_of-requires-clause-kept
types_of-requires-clause-kept g c = kept_at (g.D.Disk.state c.args.disk.now).seen (g.D.Disk.state c.count_archive.new.disk).seen c.args.places c.in_ok-gone.gone.held c.count_archive.ensures.rests.seen c.in_ok-gone.ensures.held

pub returns-in_err-grouped-clause-rests : goal.returns-in_err-grouped-clause-rests
returns-in_err-grouped-clause-rests g c = rests_on _ (g.D.Disk.state c.count_archive.new.disk) _ c.count_archive.ensures.rests c.types_of.ensures.rests

pub returns-in_err-grouped-clause-reads : goal.returns-in_err-grouped-clause-reads
returns-in_err-grouped-clause-reads g c =
    types_read_again (g.D.Disk.state c.args.disk.now).seen c.args.places c.in_ok-gone.gone.held.type_places c.args.query.now (g.D.Disk.state c.args.disk.now) (g.D.Disk.state c.count_archive.new.disk) (g.D.Disk.state c.types_of.new.disk)
    c.in_ok-gone.ensures.held.places c.requires.opens c.count_archive.ensures.reads c.types_of.ensures.reads

pub returns-in_err-grouped-clause-stopped : goal.returns-in_err-grouped-clause-stopped
returns-in_err-grouped-clause-stopped g c =
    on_err c.from_residual-in_err-grouped.result _
    (all_stopped (g.D.Disk.state c.args.disk.now).seen c.args.places c.requires.opens c.args.query.now c.in_ok-gone.gone c.args.expanded.now c.count_archive.new.expanded c.args.opened.now c.count_archive.new.opened counted_types c.new-counter.result.counts
    c.count_archive.new.counter.counts c.in_ok-gone.ensures.done)

pub returns-in_err-grouped-clause-damaged : goal.returns-in_err-grouped-clause-damaged
returns-in_err-grouped-clause-damaged g c = λ is.
    all_types_damaged (g.D.Disk.state c.args.disk.now).seen c.args.places c.requires.opens c.args.query.now c.in_ok-gone.gone c.args.expanded.now c.count_archive.new.expanded c.args.opened.now c.count_archive.new.opened c.rows_have_keys.ensures.types c.types_stand.ensures
    c.in_ok-gone.gone.held.type_places c.in_ok-gone.ensures.held.places c.new-table.result c.new-counter.result.counts c.count_archive.new.counter.counts c.new-counter.ensures.table c.new-table.ensures c.in_ok-gone.ensures.done
    (subst (λ x. OfWords x c.in_ok-gone.gone.held.type_places (λ texts. LackTexts texts c.count_archive.new.counter.counts.table)) c.count_archive.ensures.rests.seen (c.in_err-grouped.ensures.damaged (search rules)))

pub returns-clause-rests : goal.returns-clause-rests
returns-clause-rests g c = rests_on _ (g.D.Disk.state c.count_archive.new.disk) _ c.count_archive.ensures.rests c.types_of.ensures.rests

pub returns-clause-reads : goal.returns-clause-reads
returns-clause-reads g c =
    types_read_again (g.D.Disk.state c.args.disk.now).seen c.args.places c.in_ok-gone.gone.held.type_places c.args.query.now (g.D.Disk.state c.args.disk.now) (g.D.Disk.state c.count_archive.new.disk) (g.D.Disk.state c.types_of.new.disk)
    c.in_ok-gone.ensures.held.places c.requires.opens c.count_archive.ensures.reads c.types_of.ensures.reads

pub returns-clause-done : goal.returns-clause-done
returns-clause-done g c =
    all_types (g.D.Disk.state c.args.disk.now).seen c.args.places c.requires.opens c.args.query.now c.in_ok-gone.gone c.args.expanded.now c.count_archive.new.expanded c.args.opened.now c.count_archive.new.opened c.rows_have_keys.ensures.types c.types_stand.ensures
    c.in_ok-gone.gone.held.type_places c.in_ok-gone.ensures.held.places c.new-table.result c.new-counter.result.counts c.count_archive.new.counter.counts c.new-counter.ensures.table c.new-table.ensures c.in_ok-gone.ensures.done c.in_ok-grouped.grouped
    c.new-counter.ensures.matched c.new-counter.ensures.expanded c.in_ok-grouped.ensures.report (subst (λ x. OfWords x c.in_ok-gone.gone.held.type_places (λ texts. AreGroupsBy texts c.count_archive.new.counter.counts.table c.in_ok-grouped.grouped.groups)) c.count_archive.ensures.rests.seen c.in_ok-grouped.ensures.groups) c.in_ok-grouped.ensures.moments c.in_ok-grouped.ensures.without
