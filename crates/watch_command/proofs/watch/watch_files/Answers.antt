use Rattle.std.proofs.Common.{map, refl, subst, []}
use Rattle.log_sources.specs.Sources.{str_bytes}
use Rattle.wild_match.specs.Reading.{IsSearchPattern}
use Rattle.wild_match.proofs.Spelling.{IsSearchPattern-not_lone}
use Rattle.command_refusals.specs.Ending.{IsPatternRefusal}
use Rattle.command_refusals.proofs.PatternLemmas.{RefusesPattern-from, pattern_at_once, pattern_refusal}
use Rattle.watch_command.proofs.RefusedLemmas.{pattern_refused, pattern_same}
use Rattle.watch_command.proofs.watch.watch_files.Goals as goal

pub returns-in-Ok-clause-answers : goal.returns-in-Ok-clause-answers
returns-in-Ok-clause-answers g c =
    let items = subst (λ t. IsSearchPattern t c.in-Ok.pattern) c.as_bytes.ensures.value c.in-Ok.ensures.items in
    record {
      lone_backslash = λ at lone. absurd (IsSearchPattern-not_lone _ _ at items lone);
      good = λ its is. pattern_same _ c.in-Ok.pattern its g.B.Base.archive c.args.asked.workers c.args.asked.segment (map str_bytes c.args.asked.files.now) _ (g.D.Disk.state c.args.disk.now) (g.D.Disk.state c.watch_pattern.new.disk) _ items is
          c.watch_pattern.ensures.answers;
    }

pub returns-in-Err-clause-answers : goal.returns-in-Err-clause-answers
returns-in-Err-clause-answers g c =
    let law = (g.met.D.Disk g.world.𝓛 g.world.𝓜 g.world.𝓡 ((λ s x. x), (λ x. x), (λ x. x), λ x. x)).lawful in
    let refused = subst (λ t. IsPatternRefusal t c.in-Err.refusal) c.as_bytes.ensures.value (pattern_refusal _ _ c.in-Err.refusal c.in-Err.is c.read_pattern.ensures.bad) in
    record {
      lone_backslash = λ at lone. pattern_at_once _ _ _ at (RefusesPattern-from _ [] _ _ at c.in-Err.refusal refused lone (rw (← c.refusal_of_pattern.ensures) c.report.ensures.status) (rw (← c.refusal_of_pattern.ensures) c.report.ensures.said) refl refl (λ n. refl) (λ n. refl));
      good = λ its is. pattern_refused g.B.Base.archive c.args.asked.workers c.args.asked.segment its (map str_bytes c.args.asked.files.now) _ (g.D.Disk.state c.args.disk.now) (law _) _ _ c.in-Err.refusal refused
          (λ at lone. IsSearchPattern-not_lone _ its at is lone) (record {
            refuses = record { ends = record { status_is = rw (← c.refusal_of_pattern.ensures) c.report.ensures.status; said = rw (← c.refusal_of_pattern.ensures) c.report.ensures.said }; nothing = refl; sink = refl };
            opens = λ n. refl;
            reads = λ n. refl;
          });
    }
