use Rattle.std.proofs.Common.{◌∙◌, refl, sym}
use Rattle.command_refusals.proofs.GoingLemmas.{DiskGoesOn-joined}
use Rattle.bench_command.proofs.MadeLemmas.{answers_made, made_archive, made_steady, made_whole, refused_making}
use Rattle.bench_command.proofs.bench_archive.bench.Goals as goal

pub returns-in-None-clause-answers : goal.returns-in-None-clause-answers
returns-in-None-clause-answers g c = λ content unread opens reads.
    let law = (g.met.D.Disk g.world.𝓛 g.world.𝓜 g.world.𝓡 ((λ s x. x), (λ x. x), (λ x. x), λ x. x)).lawful in
    let created = c.create-outcome.ensures in
    let none = sym c.in-None.is ∙ c.refusal_of_create.ensures in
    answers_made (g.D.Disk.state c.args.disk.now) (g.D.Disk.state c.create-outcome.new.disk) (made_whole _ _ c.create-outcome.result none created.leaves) created.tells created.moments.later
    (made_steady _ _ c.create-outcome.result none created.counts) (law c.create-outcome.new.disk) c.one_list_of_parts.ensures.one c.args.asked.number c.args.asked.lines c.args.asked.workers _ _ _ c.add_logs.ensures.goes_on (c.add_logs.ensures.ends content unread opens reads)

pub returns-in-None-clause-goes_on : goal.returns-in-None-clause-goes_on
returns-in-None-clause-goes_on g c =
    let law = (g.met.D.Disk g.world.𝓛 g.world.𝓜 g.world.𝓡 ((λ s x. x), (λ x. x), (λ x. x), λ x. x)).lawful in
    let created = c.create-outcome.ensures in
    DiskGoesOn-joined (g.D.Disk.state c.args.disk.now) (g.D.Disk.state c.create-outcome.new.disk) _ (law _) (record { counts = created.counts.later; tells = created.tells; moments = created.moments }) c.add_logs.ensures.goes_on

pub returns-in-Some-clause-answers : goal.returns-in-Some-clause-answers
returns-in-Some-clause-answers g c = λ content unread opens reads.
    refused_making c.args.asked.number c.args.asked.lines c.args.asked.workers _ _ _ _ c.create-outcome.result c.in-Some.refusal (sym c.in-Some.is ∙ c.refusal_of_create.ensures) c.report.ensures.status c.report.ensures.said c.create-outcome.ensures.leaves refl refl

pub add_logs-requires-clause-archive : goal.add_logs-requires-clause-archive
add_logs-requires-clause-archive g c κs within =
    let none = sym c.in-None.is ∙ c.refusal_of_create.ensures in
    made_archive (g.D.Disk.state c.create-outcome.new.disk).seen (made_whole (g.D.Disk.state c.args.disk.now) (g.D.Disk.state c.create-outcome.new.disk) c.create-outcome.result none c.create-outcome.ensures.leaves).made
