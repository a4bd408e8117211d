use Rattle.std.proofs.Common.{refl, subst, sym}
use Rattle.query_plan.specs.Laws.{IsSearched}
use Rattle.std.specs.Prelude.{IfOk, OnErr}
use Rattle.search_meaning.specs.Journal.{OfJournal, ReadsNoBarren, asked}
use Rattle.search_walk.proofs.AnswerLemmas.{on_err}
use Rattle.search_walk.proofs.JournalLemmas.{asked_is, reads_nothing}
use Rattle.group_count.specs.Grouped.{HasGrouped, HasStoppedCounting}
use Rattle.group_count.specs.StepsServed.{IsWay}
use Rattle.group_count.proofs.GroupedLemmas.{stopped_nothing}
use Rattle.group_count.proofs.grouping.group.Goals as goal

pub returns-in_err-way-clause-reads : goal.returns-in_err-way-clause-reads
returns-in_err-way-clause-reads g c = reads_nothing _ (asked c.args.wanted.pattern.now c.args.wanted.range.now) _ _ refl

pub returns-in_err-way-clause-stopped : goal.returns-in_err-way-clause-stopped
returns-in_err-way-clause-stopped g c = on_err c.from_residual.result _ (stopped_nothing _ c.args.places (asked c.args.wanted.pattern.now c.args.wanted.range.now) _ _ _ _ c.requires.opens refl refl)

pub returns-in_err-query-clause-reads : goal.returns-in_err-query-clause-reads
returns-in_err-query-clause-reads g c = reads_nothing _ (asked c.args.wanted.pattern.now c.args.wanted.range.now) _ _ refl

pub returns-in_err-query-clause-stopped : goal.returns-in_err-query-clause-stopped
returns-in_err-query-clause-stopped g c = on_err c.from_residual-in_err-query.result _ (stopped_nothing _ c.args.places (asked c.args.wanted.pattern.now c.args.wanted.range.now) _ _ _ _ c.requires.opens refl refl)

pub group_found-requires-clause-may : goal.group_found-requires-clause-may
group_found-requires-clause-may g c = λ _ _. record {
  searched = subst IsSearched (sym c.in_ok-query.ensures.pattern) c.requires.searched;
  opens = c.requires.opens;
  order = c.requires.order;
  way = subst (λ q. IsWay q c.in_ok-way.way) (sym (asked_is c.in_ok-query.query c.args.wanted.pattern.now c.args.wanted.range.now c.in_ok-query.ensures.pattern c.in_ok-query.ensures.range)) c.in_ok-way.ensures;
}

pub returns-clause-reads : goal.returns-clause-reads
returns-clause-reads g c =
    subst (λ q. OfJournal (g.D.Disk.state c.args.disk.now).seen (λ h es held. ReadsNoBarren h es held q (g.D.Disk.state c.args.disk.now).ranges (g.D.Disk.state c.group_found.new.disk).ranges))
    (asked_is c.in_ok-query.query c.args.wanted.pattern.now c.args.wanted.range.now c.in_ok-query.ensures.pattern c.in_ok-query.ensures.range) c.group_found.ensures.reads

pub returns-clause-done : goal.returns-clause-done
returns-clause-done g c =
    subst
    (λ q. IfOk c.group_found.result (λ r. OfJournal (g.D.Disk.state c.args.disk.now).seen (λ h es held. HasGrouped h es held q c.args.wanted.by r c.args.opened.now c.group_found.new.opened c.args.expanded.now
    c.group_found.new.expanded)))
    (asked_is c.in_ok-query.query c.args.wanted.pattern.now c.args.wanted.range.now c.in_ok-query.ensures.pattern c.in_ok-query.ensures.range) c.group_found.ensures.done

pub returns-clause-stopped : goal.returns-clause-stopped
returns-clause-stopped g c =
    subst
    (λ q. OnErr c.group_found.result (OfJournal (g.D.Disk.state c.args.disk.now).seen (λ h es held. HasStoppedCounting h es held q c.args.opened.now c.group_found.new.opened c.args.expanded.now c.group_found.new.expanded)))
    (asked_is c.in_ok-query.query c.args.wanted.pattern.now c.args.wanted.range.now c.in_ok-query.ensures.pattern c.in_ok-query.ensures.range) c.group_found.ensures.stopped
