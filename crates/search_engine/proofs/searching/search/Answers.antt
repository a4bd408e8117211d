use Rattle.std.proofs.Common.{refl, subst}
use Rattle.std.specs.Prelude.{IfOk, OnErr}
use Rattle.search_engine.specs.Searched.{HasSearched, HasStopped}
use Rattle.search_meaning.specs.Journal.{OfJournal, ReadsNoBarren, asked}
use Rattle.search_walk.proofs.AnswerLemmas.{on_err}
use Rattle.search_walk.proofs.JournalLemmas.{asked_is, reads_nothing}
use Rattle.search_engine.proofs.SearchLemmas.{stopped_nothing}
use Rattle.search_engine.proofs.searching.search.Goals as goal

pub returns-clause-reads : goal.returns-clause-reads
returns-clause-reads g c =
    subst (λ q. OfJournal (g.D.Disk.state c.args.disk.now).seen (λ h es held. ReadsNoBarren h es held q (g.D.Disk.state c.args.disk.now).ranges (g.D.Disk.state c.search_opened.new.disk).ranges))
    (asked_is c.in_ok-query.query c.args.pattern.now c.args.range.now c.in_ok-query.ensures.pattern c.in_ok-query.ensures.range) c.search_opened.ensures.reads

pub returns-clause-done : goal.returns-clause-done
returns-clause-done g c =
    subst
    (λ q. IfOk c.search_opened.result (λ r. OfJournal (g.D.Disk.state c.args.disk.now).seen (λ h es held. HasSearched h es held q r (g.K.Sink.written c.args.out.now) (g.K.Sink.written c.search_opened.new.out)
    c.args.opened.now c.search_opened.new.opened c.args.expanded.now c.search_opened.new.expanded)))
    (asked_is c.in_ok-query.query c.args.pattern.now c.args.range.now c.in_ok-query.ensures.pattern c.in_ok-query.ensures.range) c.search_opened.ensures.done

pub returns-clause-stopped : goal.returns-clause-stopped
returns-clause-stopped g c =
    subst
    (λ q. OnErr c.search_opened.result (OfJournal (g.D.Disk.state c.args.disk.now).seen (λ h es held. HasStopped h es held q (g.K.Sink.written c.args.out.now) (g.K.Sink.written c.search_opened.new.out)
    c.args.opened.now c.search_opened.new.opened c.args.expanded.now c.search_opened.new.expanded)))
    (asked_is c.in_ok-query.query c.args.pattern.now c.args.range.now c.in_ok-query.ensures.pattern c.in_ok-query.ensures.range) c.search_opened.ensures.stopped

pub returns-in_err-query-clause-reads : goal.returns-in_err-query-clause-reads
returns-in_err-query-clause-reads g c = reads_nothing _ (asked c.args.pattern.now c.args.range.now) _ _ refl

pub returns-in_err-query-clause-stopped : goal.returns-in_err-query-clause-stopped
returns-in_err-query-clause-stopped g c = on_err c.from_residual.result _ (stopped_nothing _ c.args.places (asked c.args.pattern.now c.args.range.now) _ _ _ _ _ _ c.requires.opens refl refl refl)
