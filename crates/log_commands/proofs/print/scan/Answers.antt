use Rattle.std.proofs.Common.{arith, inl, refl}
use Rattle.wild_match.proofs.Spelling.{IsSearchPattern-not_lone}
use Rattle.command_refusals.proofs.PatternLemmas.{RefusesPattern-from}
use Rattle.log_commands.proofs.AnswerLemmas.{AnswersLog-pattern, AnswersLog-refused}
use Rattle.log_commands.proofs.print.scan.Goals as goal

pub returns-in-Ok-clause-lone : goal.returns-in-Ok-clause-lone
returns-in-Ok-clause-lone g c = λ at lone. absurd (IsSearchPattern-not_lone _ _ at c.in-Ok.ensures.items lone)

pub returns-in-Ok-clause-good : goal.returns-in-Ok-clause-good
returns-in-Ok-clause-good g c = λ items is. AnswersLog-pattern c.args.file.now _ _ items _ _ c.in-Ok.ensures.items is c.print_and_report.ensures.answers

pub returns-in-Err-clause-lone : goal.returns-in-Err-clause-lone
returns-in-Err-clause-lone g c = λ at lone. RefusesPattern-from _ c.args.file.now _ _ at c.in-Err.refusal c.in-Err.ensures.refused lone (rw (← c.refusal_of_pattern.ensures) c.report.ensures.status) (rw (← c.refusal_of_pattern.ensures) c.report.ensures.said) refl refl (λ n. refl) (λ n. refl)

pub returns-in-Err-clause-good : goal.returns-in-Err-clause-good
returns-in-Err-clause-good g c = λ items is. AnswersLog-refused _ _ c.args.file.now _ _ c.in-Err.refusal c.in-Err.ensures.refused (λ at lone. IsSearchPattern-not_lone _ items at is lone) (rw (← c.refusal_of_pattern.ensures) c.report.ensures.status) (rw (← c.refusal_of_pattern.ensures) c.report.ensures.said) refl refl (inl (omega arith))
