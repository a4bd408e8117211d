use Rattle.std.proofs.Common.{◌∙◌, ap, ap₂, refl, rules, subst, sym, List, Some, map, ◌≡◌}
use Rattle.log_sources.specs.Sources.{str_bytes}
use Rattle.generated_logs.specs.Logs.{content_of}
use Rattle.generated_logs.specs.States.{open_faults_of, unread_of}
use Rattle.command_answers.specs.Benched.{generated_names, segment_rows}
use Rattle.write_commands.specs.IngestPrints.{came_of, names_of}
use Rattle.command_answers.specs.Ingested.{FileOutcome, FromArchive, HasCallCause, TakesIn}
use Rattle.command_answers.specs.Names.{RefusesNames}
use Rattle.file_outcomes.specs.StepsCauses.{HaveFileCauses}
use Rattle.command_refusals.specs.declared.outcome.AddRefusal.TheVariants.{OutOfMemory}
use Rattle.file_outcomes.specs.declared.file_report.FileReport.{FileReport}
use Rattle.bench_command.proofs.BenchLemmas.{logs_added, refused_logs}
use Rattle.write_commands.proofs.CameLemmas.{logs_came, names_came}
use Rattle.write_commands.proofs.CauseLemmas.{names_cause}
use Rattle.bench_command.proofs.LogCauseLemmas.{log_causes, logs_spared}
use Rattle.file_outcomes.proofs.StepsLemmas.{same_nothing}
use Rattle.bench_command.proofs.bench_archive.add_logs.Goals as goal

pub returns-in-Some-clause-ends : goal.returns-in-Some-clause-ends
returns-in-Some-clause-ends g c = λ content unread opens reads.
    let law = (g.met.D.Disk g.world.𝓛 g.world.𝓜 g.world.𝓡 ((λ s x. x), (λ x. x), (λ x. x), λ x. x)).lawful in
    let refused = subst (λ ns. RefusesNames ns (Some c.in-Some.refusal)) c.log_names-names.ensures c.in-Some.ensures in
    refused_logs _ _ _ _ _ _ c.in-Some.refusal (rw (← c.refusal_of_add.ensures) c.report.ensures.status) (rw (← c.refusal_of_add.ensures) c.report.ensures.said) refl refl (names_cause generated_names (g.D.Disk.state c.args.disk.now) (g.D.Disk.state c.args.disk.now) c.in-Some.refusal refused)
    (same_nothing (g.D.Disk.state c.args.disk.now) (law _))

pub returns-in_default-with_capacity-clause-ends : goal.returns-in_default-with_capacity-clause-ends
returns-in_default-with_capacity-clause-ends g c = λ content unread opens reads.
    let law = (g.met.D.Disk g.world.𝓛 g.world.𝓜 g.world.𝓡 ((λ s x. x), (λ x. x), (λ x. x), λ x. x)).lawful in
    let said = c.report-in_default-with_capacity.ensures in
    refused_logs _ _ _ _ _ _ OutOfMemory said.status said.said refl refl tt (same_nothing (g.D.Disk.state c.args.disk.now) (law _))

pub returns-in-Ok-add_lent-clause-ends : goal.returns-in-Ok-add_lent-clause-ends
returns-in-Ok-add_lent-clause-ends g c = λ content unread opens reads.
    let law = (g.met.D.Disk g.world.𝓛 g.world.𝓜 g.world.𝓡 ((λ s x. x), (λ x. x), (λ x. x), λ x. x)).lawful in
    let old = g.D.Disk.state c.args.disk.now in
    let mid = g.D.Disk.state c.add_lent.new.disk in
    let new = g.D.Disk.state c.sum_up.new.disk in
    let names = map str_bytes c.log_names-names.result in
    let files = c.as_slice.ensures.value in
    let logs = ap₂ content_of c.new-shelf.ensures.number c.new-shelf.ensures.lines in
    let told = subst (λ k. FromArchive old (λ h before bytes stood. TakesIn segment_rows h before stood names (map (came_of k) c.add_lent.new.taken.items) old mid)) logs c.in-Ok-add_lent.ensures.added.taken in
    let takes = subst (λ (fs : List FileReport). FromArchive old (λ h before bytes stood. TakesIn segment_rows h before stood names (map (came_of (content_of c.args.asked.number c.args.asked.lines)) fs) old mid)) (sym files) told in
    let same = ap names_of files ∙ c.in-Ok-add_lent.ensures.added.names in
    let named : map (λ (x : FileOutcome). x.name) (map (came_of (content_of c.args.asked.number c.args.asked.lines)) c.as_slice.result.now) ≡ generated_names = names_came (content_of c.args.asked.number c.args.asked.lines) c.as_slice.result.now ∙ (same ∙ c.log_names-names.ensures) in
    let logged = logs_came (content_of c.args.asked.number c.args.asked.lines) c.as_slice.result.now in
    let were = subst (λ k. HaveFileCauses (record { opens = λ name. (open_faults_of c.new-shelf.result name, open_faults_of c.add_lent.new.shelf name); reads = λ name. (0, 0); unread = unread_of c.add_lent.new.shelf }) c.args.asked.workers segment_rows old mid (map (came_of k) c.add_lent.new.taken.items)) logs c.in-Ok-add_lent.ensures.added.causes in
    let causes = subst (λ (fs : List FileReport). HaveFileCauses (record { opens = λ name. (open_faults_of c.new-shelf.result name, open_faults_of c.add_lent.new.shelf name); reads = λ name. (0, 0); unread = unread_of c.add_lent.new.shelf }) c.args.asked.workers segment_rows old mid (map (came_of (content_of c.args.asked.number c.args.asked.lines)) fs)) (sym files) were in
    logs_added (content_of c.args.asked.number c.args.asked.lines) c.args.asked.workers names c.as_slice.result.now _ old mid new _ c.log_names-names.ensures same (law _)
    c.add_lent.ensures.goes_on c.sum_up.ensures.keeps c.sum_up.ensures.disk takes
    (log_causes c.args.asked.number c.args.asked.lines (unread_of c.add_lent.new.shelf) unread c.requires.lines c.new-shelf.result c.add_lent.new.shelf c.args.asked.workers segment_rows old mid new c.sum_up.ensures.keeps.seen c.sum_up.ensures.disk (map (came_of (content_of c.args.asked.number c.args.asked.lines)) c.as_slice.result.now) named logged causes)
    (logs_spared c.args.asked.number c.args.asked.lines (unread_of c.add_lent.new.shelf) unread c.requires.lines c.new-shelf.result c.add_lent.new.shelf c.args.asked.workers segment_rows old mid new c.sum_up.ensures.keeps.seen c.sum_up.ensures.disk (map (came_of (content_of c.args.asked.number c.args.asked.lines)) c.as_slice.result.now) named logged causes)
    (c.sum_up.ensures.told (content_of c.args.asked.number c.args.asked.lines) content unread opens reads)

pub returns-clause-ends : goal.returns-clause-ends
returns-clause-ends g c = λ content unread opens reads.
    let old = g.D.Disk.state c.args.disk.now in
    let new = g.D.Disk.state c.add_lent.new.disk in
    refused_logs _ _ _ old new _ c.in-Err.refusal (rw (← c.refusal_of_add-in-Err.ensures) c.report-in-Err.ensures.status) (rw (← c.refusal_of_add-in-Err.ensures) c.report-in-Err.ensures.said) refl refl
    (subst (λ ns. HasCallCause ns old new c.in-Err.refusal) c.log_names-names.ensures c.in-Err.ensures.refused.cause) c.in-Err.ensures.refused.nothing

pub add_lent-requires-clause-asked : goal.add_lent-requires-clause-asked
add_lent-requires-clause-asked g c κs within = record {
  limits = record { workers = c.requires.workers; segment = (search rules, search rules) };
  names = record { some = search rules; unrefused = rw (c.in_default.is) at c.refuse_names.ensures };
}

pub add_lent-requires-clause-archive : goal.add_lent-requires-clause-archive
add_lent-requires-clause-archive g c κs within = λ tells. c.requires.archive
