use Rattle.std.proofs.Common.{◌≡◌, ◌∙◌, ap, arith, refl, subst, sym, List, length, map}
use Rattle.std.proofs.lemmas.List.{length-map}
use Rattle.log_sources.specs.Sources.{str_bytes}
use Rattle.write_commands.specs.IngestPrints.{came_of, names_of}
use Rattle.command_answers.specs.Ingested.{FromArchive, TakesIn, TellsDamage}
use Rattle.command_answers.specs.Known.{are_of, over}
use Rattle.file_outcomes.specs.StepsKnown.{told_lawful}
use Rattle.file_outcomes.specs.StepsCauses.{HaveFileCauses, logs_around}
use Rattle.command_refusals.specs.Reading.{OverJournal}
use Rattle.command_refusals.specs.declared.outcome.AddRefusal.TheVariants.{OutOfMemory}
use Rattle.file_outcomes.specs.declared.file_report.FileReport.{FileReport}
use Rattle.write_commands.proofs.CameLemmas.{printed_came, refused_all, told_came}
use Rattle.write_commands.proofs.CauseLemmas.{names_cause}
use Rattle.file_outcomes.proofs.KnownLemmas.{are_archive, tells_alike}
use Rattle.write_commands.proofs.DamageLemmas.{names_damage}
use Rattle.write_commands.proofs.NameLemmas.{none_refused, one_refusal}
use Rattle.command_refusals.proofs.GoingLemmas.{KeepsBytes-same}
use Rattle.file_outcomes.proofs.StepsLemmas.{same_nothing}
use Rattle.write_commands.proofs.ingest.ingest_files.Goals as goal

pub returns-in-Some-clause-answers : goal.returns-in-Some-clause-answers
returns-in-Some-clause-answers g c =
    let old = over g.B.Base.archive (g.D.Disk.state c.args.disk.now) (g.D.Disk.state c.args.disk.now) in
    let law = (g.met.D.Disk g.world.𝓛 g.world.𝓜 g.world.𝓡 ((λ s x. x), (λ x. x), (λ x. x), λ x. x)).lawful in
    refused_all (TellsDamage (g.D.Disk.state c.args.disk.now) (g.D.Disk.state c.args.disk.now)) c.args.asked.workers c.args.asked.segment (map str_bytes c.args.asked.files.now) _ old old _ c.in-Some.refusal (rw (← c.refusal_of_add.ensures) c.report.ensures.status) (rw (← c.refusal_of_add.ensures) c.report.ensures.said) refl refl (names_cause (map str_bytes c.args.asked.files.now) old old c.in-Some.refusal c.in-Some.ensures) (same_nothing old (told_lawful _ _ (law c.args.disk.now)))
    (names_damage (map str_bytes c.args.asked.files.now) _ _ c.in-Some.refusal c.in-Some.ensures)

pub add_lent-requires-clause-asked : goal.add_lent-requires-clause-asked
add_lent-requires-clause-asked g c κs within = record {
  limits = record { workers = c.requires.workers; segment = c.requires.segment };
  names = record { some = omega (arith, c.requires.some, length-map c.args.asked.files.now str_bytes); unrefused = rw (c.in_default.is) at c.refuse_names.ensures };
}

pub returns-in_default-with_capacity-clause-answers : goal.returns-in_default-with_capacity-clause-answers
returns-in_default-with_capacity-clause-answers g c =
    let old = over g.B.Base.archive (g.D.Disk.state c.args.disk.now) (g.D.Disk.state c.args.disk.now) in
    let law = (g.met.D.Disk g.world.𝓛 g.world.𝓜 g.world.𝓡 ((λ s x. x), (λ x. x), (λ x. x), λ x. x)).lawful in
    let said = c.report-in_default-with_capacity.ensures in
    refused_all (TellsDamage (g.D.Disk.state c.args.disk.now) (g.D.Disk.state c.args.disk.now)) c.args.asked.workers c.args.asked.segment (map str_bytes c.args.asked.files.now) _ old old _ OutOfMemory said.status said.said refl refl tt (same_nothing old (told_lawful _ _ (law c.args.disk.now))) tt

pub returns-in-Ok-add_lent-clause-answers : goal.returns-in-Ok-add_lent-clause-answers
returns-in-Ok-add_lent-clause-answers g c =
    let old = over g.B.Base.archive (g.D.Disk.state c.args.disk.now) (g.D.Disk.state c.args.disk.now) in
    let new = over g.B.Base.archive (g.D.Disk.state c.args.disk.now) (g.D.Disk.state c.add_lent.new.disk) in
    let content = g.H.Shelf.content c.args.shelf.now in
    let files = c.as_slice.ensures.value in
    let numbered = subst (λ n. OverJournal old.seen (λ journal. n ≡ length journal.names)) (sym c.from.ensures) c.in-Ok-add_lent.ensures.added.number in
    let caused = subst (λ (fs : List FileReport). HaveFileCauses (logs_around g.H.Shelf.unread g.H.Shelf.open_faults g.H.Shelf.read_faults c.args.shelf.now c.add_lent.new.shelf) c.args.asked.workers c.args.asked.segment old new (map (came_of content) fs)) (sym files) c.in-Ok-add_lent.ensures.added.causes in
    let taken = subst (λ (fs : List FileReport). FromArchive old (λ h before bytes stood. TakesIn c.args.asked.segment h before stood (map str_bytes c.args.asked.files.now) (map (came_of content) fs) old new)) (sym files) c.in-Ok-add_lent.ensures.added.taken in
    printed_came c.one_list_of_parts.ensures.one c.args.asked.workers c.args.asked.segment (map str_bytes c.args.asked.files.now) _ old new (tells_alike (are_of g.B.Base.archive (g.D.Disk.state c.args.disk.now).seen) (g.D.Disk.state c.args.disk.now) (g.D.Disk.state c.add_lent.new.disk) c.add_lent.ensures.goes_on.tells) c.from.result c.as_slice.result.now (ap names_of files ∙ c.in-Ok-add_lent.ensures.added.names) numbered taken caused (TellsDamage (g.D.Disk.state c.args.disk.now) (g.D.Disk.state c.add_lent.new.disk)) _
    (c.print_taken.ensures.prints (map (came_of content) c.as_slice.result.now) (told_came content c.as_slice.result.now) _ _ _ _)

pub returns-clause-answers : goal.returns-clause-answers
returns-clause-answers g c =
    let old = over g.B.Base.archive (g.D.Disk.state c.args.disk.now) (g.D.Disk.state c.args.disk.now) in
    let new = over g.B.Base.archive (g.D.Disk.state c.args.disk.now) (g.D.Disk.state c.add_lent.new.disk) in
    refused_all (TellsDamage (g.D.Disk.state c.args.disk.now) (g.D.Disk.state c.add_lent.new.disk)) c.args.asked.workers c.args.asked.segment (map str_bytes c.args.asked.files.now) _ old new _ c.in-Err.refusal (rw (← c.refusal_of_add-in-Err.ensures) c.report-in-Err.ensures.status) (rw (← c.refusal_of_add-in-Err.ensures) c.report-in-Err.ensures.said) refl refl c.in-Err.ensures.refused.cause c.in-Err.ensures.refused.nothing c.in-Err.ensures.damaged

pub add_lent-requires-clause-archive : goal.add_lent-requires-clause-archive
add_lent-requires-clause-archive g c κs within = λ are. are_archive g.B.Base.archive (g.D.Disk.state c.args.disk.now).seen are

-- ---- names that are refused by themselves

pub returns-in-Some-clause-names : goal.returns-in-Some-clause-names
returns-in-Some-clause-names g c = λ refusal refused.
    let same = one_refusal (map str_bytes c.args.asked.files.now) c.in-Some.refusal refusal (rw (c.in-Some.is) at c.refuse_names.ensures) refused in
    rw (sym same) (record {
      soon = record { refuses = record { ends = record { status_is = rw (← c.refusal_of_add.ensures) c.report.ensures.status; said = rw (← c.refusal_of_add.ensures) c.report.ensures.said }; nothing = refl; sink = refl }; opens = λ n. refl; reads = λ n. refl };
      bytes = KeepsBytes-same _;
      ranges = refl;
      faults = refl;
    })

pub returns-in_default-with_capacity-clause-names : goal.returns-in_default-with_capacity-clause-names
returns-in_default-with_capacity-clause-names g c = λ refusal refused. absurd (none_refused (map str_bytes c.args.asked.files.now) refusal (rw (c.in_default.is) at c.refuse_names.ensures) refused)

pub returns-in-Ok-add_lent-clause-names : goal.returns-in-Ok-add_lent-clause-names
returns-in-Ok-add_lent-clause-names g c = λ refusal refused. absurd (none_refused (map str_bytes c.args.asked.files.now) refusal (rw (c.in_default.is) at c.refuse_names.ensures) refused)

pub returns-clause-names : goal.returns-clause-names
returns-clause-names g c = λ refusal refused. absurd (none_refused (map str_bytes c.args.asked.files.now) refusal (rw (c.in_default.is) at c.refuse_names.ensures) refused)
