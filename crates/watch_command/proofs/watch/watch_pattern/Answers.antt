use Rattle.std.proofs.Common.{ap, arith, inr, map, refl, subst, sym, List}
use Rattle.std.proofs.lemmas.List.{length-map}
use Rattle.log_sources.specs.Sources.{str_bytes}
use Rattle.command_refusals.specs.Outcome.{answer_of}
use Rattle.command_answers.specs.Known.{are_of, over}
use Rattle.file_outcomes.specs.StepsCauses.{logs_around}
use Rattle.file_outcomes.specs.declared.file_report.FileReport.{FileReport}
use Rattle.file_outcomes.proofs.KnownLemmas.{tells_alike}
use Rattle.write_commands.proofs.NameLemmas.{none_refused}
use Rattle.watch_command.specs.StepsWatched.{AddsWatched}
use Rattle.watch_command.proofs.BehindLemmas.{watches_came}
use Rattle.watch_command.proofs.RefusedLemmas.{answers_refused, memory_ended, names_refused}
use Rattle.watch_command.proofs.watch.watch_pattern.Goals as goal

-- ---- before the archive is touched

pub returns-in-Some-clause-answers : goal.returns-in-Some-clause-answers
returns-in-Some-clause-answers g c =
    let law = (g.met.D.Disk g.world.𝓛 g.world.𝓜 g.world.𝓡 ((λ s x. x), (λ x. x), (λ x. x), λ x. x)).lawful in
    names_refused g.B.Base.archive c.args.asked.workers c.args.asked.segment c.args.pattern (map str_bytes c.args.asked.files.now) _ (g.D.Disk.state c.args.disk.now) (law _) _ c.in-Some.refusal c.in-Some.ensures (record {
      refuses = record { ends = record { status_is = rw (← c.refusal_of_add.ensures) c.report.ensures.status; said = rw (← c.refusal_of_add.ensures) c.report.ensures.said }; nothing = refl; sink = refl };
      opens = λ n. refl;
      reads = λ n. refl;
    })

pub returns-in_default-with_capacity-clause-answers : goal.returns-in_default-with_capacity-clause-answers
returns-in_default-with_capacity-clause-answers g c =
    let law = (g.met.D.Disk g.world.𝓛 g.world.𝓜 g.world.𝓡 ((λ s x. x), (λ x. x), (λ x. x), λ x. x)).lawful in
    let said = c.report-in_default-with_capacity.ensures in
    let is = c.refusal_of_add-in_default-with_capacity.ensures in
    memory_ended g.B.Base.archive c.args.asked.workers c.args.asked.segment c.args.pattern (map str_bytes c.args.asked.files.now) _ (g.D.Disk.state c.args.disk.now) (law _) _ (record {
      refuses = record { ends = record { status_is = rw (is) at said.status; said = rw (is) at said.said }; nothing = refl; sink = refl };
      opens = λ n. refl;
      reads = λ n. refl;
    })

pub add_known-requires-clause-asked : goal.add_known-requires-clause-asked
add_known-requires-clause-asked g c κs within = record {
  limits = record { workers = c.requires.workers; segment = c.requires.segment };
  names = record { some = omega (arith, c.requires.some, length-map c.args.asked.files.now str_bytes); unrefused = rw (c.in_default.is) at c.refuse_names.ensures };
}

-- ---- the logs were added, or they were not

pub returns-in-Ok-add_known-clause-answers : goal.returns-in-Ok-add_known-clause-answers
returns-in-Ok-add_known-clause-answers g c =
    let old = over g.B.Base.archive (g.D.Disk.state c.args.disk.now) (g.D.Disk.state c.args.disk.now) in
    let new = over g.B.Base.archive (g.D.Disk.state c.args.disk.now) (g.D.Disk.state c.add_known.new.disk) in
    let names = map str_bytes c.args.asked.files.now in
    let content = g.H.Shelf.content c.args.shelf.now in
    let files = c.as_slice.ensures.value in
    let did = subst (λ (fs : List FileReport). AddsWatched content (logs_around g.H.Shelf.unread g.H.Shelf.open_faults g.H.Shelf.read_faults c.args.shelf.now c.add_known.new.shelf) c.args.asked c.args.pattern c.in-Ok-add_known.watched fs
    (g.K.Sink.written c.args.out.now, g.K.Sink.written c.add_known.new.out) (g.K.Sink.faults c.args.out.now, g.K.Sink.faults c.add_known.new.out) old new) (sym files) c.in-Ok-add_known.ensures.added in
    record {
      names_first = λ refusal refused. absurd (none_refused names refusal (rw (c.in_default.is) at c.refuse_names.ensures) refused);
      ends = inr (watches_came c.one_list_of_parts.ensures.one c.args.asked.workers c.args.asked.segment c.args.pattern names _ _ old new _ (answer_of c.in-Ok-add_known.watched.reader)
          (tells_alike (are_of g.B.Base.archive (g.D.Disk.state c.args.disk.now).seen) (g.D.Disk.state c.args.disk.now) (g.D.Disk.state c.add_known.new.disk) c.add_known.ensures.goes_on.tells)
          c.in-Ok-add_known.watched.first c.as_slice.result.now did.adds.names did.adds.number did.adds.taken did.adds.causes
          (record { out = refl; faults = refl; err = refl; err_faults = refl }) c.add_known.ensures.more.grew c.add_known.ensures.more.later c.print_rest.ensures.out did.watched
          (c.print_rest.ensures.prints content content content (λ n. 0) (λ n. 0)));
      damaged = tt;
    }

pub returns-clause-answers : goal.returns-clause-answers
returns-clause-answers g c =
    let names = map str_bytes c.args.asked.files.now in
    answers_refused g.B.Base.archive c.args.asked.workers c.args.asked.segment c.args.pattern names _ (g.D.Disk.state c.args.disk.now) (g.D.Disk.state c.add_known.new.disk) _ c.in-Err.refusal
    (λ refusal refused. absurd (none_refused names refusal (rw (c.in_default.is) at c.refuse_names.ensures) refused))
    (record {
      ends = record { status_is = rw (← c.refusal_of_add-in-Err.ensures) c.report-in-Err.ensures.status; said = rw (← c.refusal_of_add-in-Err.ensures) c.report-in-Err.ensures.said };
      nothing = ap g.K.Sink.written c.in-Err.ensures.rests;
      sink = ap g.K.Sink.faults c.in-Err.ensures.rests;
    })
    c.in-Err.ensures.refused.cause c.in-Err.ensures.refused.nothing c.in-Err.ensures.damaged
