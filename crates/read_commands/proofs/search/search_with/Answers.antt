use Rattle.std.proofs.Common.{◌≡◌, ap, false, refl, rules, Err}
use Rattle.std.specs.Prelude.{is_ok}
use Rattle.std.proofs.lemmas.Result.{err_from_is_err_and}
use Rattle.command_refusals.specs.declared.outcome.ReadRefusal.{ReadRefusal}
use Rattle.read_commands.proofs.SearchingLemmas.{found_done, found_stopped, found_uncounted, found_unopened, grew_bare, grew_counted, spares_opened, spares_searched}
use Rattle.search_refusals.proofs.EndedLemmas.{search_refused_at}
use Rattle.read_commands.proofs.search.search_with.Goals.{then-wanted+in_ok-print_counts, else-wanted}
use Rattle.read_commands.proofs.search.search_with.Goals as goal

pub returns-in_err-places-clause-reads : goal.returns-in_err-places-clause-reads
returns-in_err-places-clause-reads g c = spares_opened _ _ _ _ c.open_places.ensures.ranges

pub returns-in_err-places-clause-prints : goal.returns-in_err-places-clause-prints
returns-in_err-places-clause-prints g c =
    let p = err_from_is_err_and c.from_residual.result c.from_residual.ensures.1 in
    found_unopened (is_ok c.from_residual.result) _ _ _ _ (ap is_ok p.1)

pub returns-in-Err-clause-reads : goal.returns-in-Err-clause-reads
returns-in-Err-clause-reads g c = spares_searched _ _ _ _ _ _ c.in_ok-places.ensures.keeps.seen c.in_ok-places.ensures.ranges c.search-answer.ensures.reads

pub returns-in-Err-clause-prints : goal.returns-in-Err-clause-prints
returns-in-Err-clause-prints g c = found_stopped false _ _ _ _ _ _ _ _ _ _ refl c.in_ok-places.ensures.keeps.seen c.in-Err.ensures.stopped

pub returns-in-Err-clause-damaged : goal.returns-in-Err-clause-damaged
returns-in-Err-clause-damaged g c = λ at is.
    let told : c.of_search.result ≡ ReadRefusal.Damaged at = cc (is) in
    search_refused_at _ c.in-Err.refusal c.saturating_sub-last.result at _ _ c.in_ok-places.places c.of_search.ensures told c.in_ok-places.ensures.keeps.seen c.in_ok-places.ensures.last (search rules)
    (λ refusal. c.in-Err.ensures.damaged (ap Err refusal))

pub returns-in_err-print_counts-clause-reads : goal.returns-in_err-print_counts-clause-reads
returns-in_err-print_counts-clause-reads g c = spares_searched _ _ _ _ _ _ c.in_ok-places.ensures.keeps.seen c.in_ok-places.ensures.ranges c.search-answer.ensures.reads

pub returns-in_err-print_counts-clause-prints : goal.returns-in_err-print_counts-clause-prints
returns-in_err-print_counts-clause-prints g c =
    let p = err_from_is_err_and c.from_residual-in_err-print_counts.result c.from_residual-in_err-print_counts.ensures.1 in
    found_uncounted (is_ok c.from_residual-in_err-print_counts.result) _ c.args.wanted.stats _ _ _ _ _ _ _ _ _ _ (ap is_ok p.1) c.if-wanted.true c.in_ok-places.ensures.keeps.seen c.in-Ok.ensures.done c.in_err-print_counts.ensures.err

pub returns-clause-reads : goal.returns-clause-reads
returns-clause-reads g c = spares_searched _ _ _ _ _ _ c.in_ok-places.ensures.keeps.seen c.in_ok-places.ensures.ranges c.search-answer.ensures.reads

pub returns-clause-prints : goal.returns-clause-prints
returns-clause-prints g c =
    found_done _ c.args.wanted.stats _ _ c.in-Ok.report _ (g.K.Sink.written c.search-answer.new.out) (g.K.Sink.written c.if-wanted.out) _ _ _ _ c.in_ok-places.ensures.keeps.seen c.in-Ok.ensures.done
    (elim c.if-wanted.branch [
      | then-wanted+in_ok-print_counts w ↦ grew_counted c.args.wanted.stats c.in-Ok.report (g.K.Sink.written c.search-answer.new.out) _ (g.K.Sink.written w.print_counts.new.out) w.if-wanted.true (ap g.K.Sink.written w.out-is) w.in_ok-print_counts.ensures.ok
      | else-wanted w ↦ grew_bare c.args.wanted.stats c.in-Ok.report (g.K.Sink.written c.search-answer.new.out) _ w.if-wanted.false (ap g.K.Sink.written w.out-is)
    ])
