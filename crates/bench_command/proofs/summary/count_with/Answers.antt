use Rattle.std.proofs.Common.{◌≡◌, ap, rules, Err}
use Rattle.command_refusals.specs.declared.outcome.ReadRefusal.{ReadRefusal}
use Rattle.search_refusals.proofs.EndedLemmas.{search_refused_at}
use Rattle.bench_command.proofs.SummaryLemmas.{counted_done}
use Rattle.bench_command.proofs.summary.count_with.Goals as goal

pub search-answer-requires-clause-searched : goal.search-answer-requires-clause-searched
search-answer-requires-clause-searched g c κs within = c.wide_is_wider.ensures.searched _ _ c.in_ok-pattern.ensures.ok

pub returns-in-Ok-clause-counted : goal.returns-in-Ok-clause-counted
returns-in-Ok-clause-counted g c =
    counted_done _ _ c.in_ok-pattern.pattern c.in-Ok.report _ _ _ _ _ _ c.in_ok-places.ensures.keeps.seen c.in_ok-pattern.ensures.ok c.in-Ok.ensures.done

pub returns-clause-damaged : goal.returns-clause-damaged
returns-clause-damaged g c = λ at is.
    let told : c.of_search.result ≡ ReadRefusal.Damaged at = cc (is) in
    search_refused_at _ c.in-Err.refusal c.saturating_sub-last.result at _ _ c.in_ok-places.places c.of_search.ensures told c.in_ok-places.ensures.keeps.seen c.in_ok-places.ensures.last (search rules)
    (λ refusal. c.in-Err.ensures.damaged (ap Err refusal))
