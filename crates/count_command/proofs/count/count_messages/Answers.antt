use Rattle.std.proofs.Common.{refl, rules, subst, []}
use Rattle.wild_match.specs.Reading.{IsSearchPattern}
use Rattle.wild_match.proofs.Spelling.{IsSearchPattern-not_lone}
use Rattle.command_refusals.specs.Ending.{IsPatternRefusal}
use Rattle.command_refusals.proofs.PatternLemmas.{RefusesPattern-from, pattern_at_once, pattern_refusal}
use Rattle.count_command.proofs.AnswerLemmas.{count_answers, count_pattern, count_refused}
use Rattle.count_command.proofs.count.count_messages.Goals as goal

pub print_groups-outcome-requires-clause-searched : goal.print_groups-outcome-requires-clause-searched
print_groups-outcome-requires-clause-searched g c κs within = c.wide_is_wider.ensures.searched _ _ c.in-Ok.ensures.items

pub returns-in-Ok-clause-answers : goal.returns-in-Ok-clause-answers
returns-in-Ok-clause-answers g c = λ content unread opens reads.
    let done = c.print_groups-outcome.ensures in
    let items = subst (λ t. IsSearchPattern t c.in-Ok.pattern) c.as_bytes.ensures.value c.in-Ok.ensures.items in
    record {
      lone_backslash = λ at lone. absurd (IsSearchPattern-not_lone _ _ at items lone);
      good = λ its is. count_pattern _ _ _ _ _ _ _ _ _ _ items is
          (count_answers _ _ _ _ _ _ _ c.print_groups-outcome.result (rw (← c.refusal_of_read.ensures) (record { status_is = c.answer.ensures.status; said = c.answer.ensures.said })) done.keeps done.disk done.sink (rw (← c.group_by-by.ensures) done.prints) done.reads (λ at is. done.damaged at (search (rules, is))));
    }

pub returns-in-Err-clause-answers : goal.returns-in-Err-clause-answers
returns-in-Err-clause-answers g c = λ content unread opens reads.
    let refused = subst (λ t. IsPatternRefusal t c.in-Err.refusal) c.as_bytes.ensures.value (pattern_refusal _ _ c.in-Err.refusal c.in-Err.is c.read_pattern.ensures.bad) in
    record {
      lone_backslash = λ at lone. pattern_at_once _ _ _ at (RefusesPattern-from _ [] _ _ at c.in-Err.refusal refused lone (rw (← c.refusal_of_pattern.ensures) c.report.ensures.status) (rw (← c.refusal_of_pattern.ensures) c.report.ensures.said) refl refl (λ n. refl) (λ n. refl));
      good = λ its is. count_refused _ _ _ _ _ _ _ c.in-Err.refusal refused (λ at lone. IsSearchPattern-not_lone _ its at is lone) (rw (← c.refusal_of_pattern.ensures) c.report.ensures.status) (rw (← c.refusal_of_pattern.ensures) c.report.ensures.said) refl refl;
    }
