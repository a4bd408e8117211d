use Rattle.std.proofs.Common.{◌≡◌, ap, rules, Err}
use Rattle.command_refusals.specs.declared.outcome.ReadRefusal.{ReadRefusal}
use Rattle.search_refusals.proofs.EndedLemmas.{search_refused_at}
use Rattle.count_command.proofs.CountingLemmas.{counted_in, spares_counted, spares_opened}
use Rattle.count_command.proofs.count.group_with.Goals as goal

pub returns-in_err-places-clause-reads : goal.returns-in_err-places-clause-reads
returns-in_err-places-clause-reads g c = spares_opened _ _ _ _ c.open_places.ensures.ranges

pub returns-in-Ok-clause-reads : goal.returns-in-Ok-clause-reads
returns-in-Ok-clause-reads g c = spares_counted _ _ _ _ _ _ c.in_ok-places.ensures.keeps.seen c.in_ok-places.ensures.ranges c.group-answer.ensures.reads

pub returns-in-Ok-clause-counted : goal.returns-in-Ok-clause-counted
returns-in-Ok-clause-counted g c = counted_in _ c.args.wanted.by _ _ c.in-Ok.grouped _ _ _ _ c.in_ok-places.ensures.keeps.seen c.in-Ok.ensures.done

pub returns-clause-reads : goal.returns-clause-reads
returns-clause-reads g c = spares_counted _ _ _ _ _ _ c.in_ok-places.ensures.keeps.seen c.in_ok-places.ensures.ranges c.group-answer.ensures.reads

pub returns-clause-damaged : goal.returns-clause-damaged
returns-clause-damaged g c = λ at is.
    let told : c.of_search.result ≡ ReadRefusal.Damaged at = cc (is) in
    search_refused_at _ c.in-Err.refusal c.saturating_sub-last.result at _ _ c.in_ok-places.places c.of_search.ensures told c.in_ok-places.ensures.keeps.seen c.in_ok-places.ensures.last (search rules)
    (λ refusal. c.in-Err.ensures.damaged (ap Err refusal))
