use Rattle.std.proofs.Common.{refl, subst}
use Rattle.command_answers.specs.Known.{told_if}
use Rattle.file_outcomes.specs.Naming.{IsHeldBy}
use Rattle.write_commands.specs.StepsAdding.{AddsOrRefuses}
use Rattle.file_outcomes.specs.StepsCauses.{logs_around}
use Rattle.file_outcomes.proofs.LentLemmas.{of_parts}
use Rattle.write_commands.proofs.DamageLemmas.{begins_at}
use Rattle.write_commands.proofs.ingest.add_founded.Goals as goal

pub add_over-answer-requires-clause-held : goal.add_over-answer-requires-clause-held
add_over-answer-requires-clause-held g c κs within = λ name.
    of_parts (λ j. IsHeldBy j c.args.holding.types c.args.holding.words c.args.holding.files) g.L.Lent.tells name
    c.args.journal c.part_journal-founded.result.founded.disk.now c.part_journal-founded.result.end c.part_journal-founded.ensures.parts (c.requires.held name)

pub add_over-answer-requires-clause-beside : goal.add_over-answer-requires-clause-beside
add_over-answer-requires-clause-beside g c κs within = λ name. begins_at _ _ refl refl refl (λ h es hs. tt)

pub returns-clause-came : goal.returns-clause-came
returns-clause-came g c =
    let logs = logs_around g.H.Shelf.unread g.H.Shelf.open_faults g.H.Shelf.read_faults c.args.shelf.now c.add_over-answer.new.shelf in
    let last = told_if g.L.Lent.tells (g.D.Disk.state c.add_over-answer.new.disk.disk.now) in
    subst (λ d. AddsOrRefuses (g.H.Shelf.content c.args.shelf.now) logs c.args.asked c.add_over-answer.new.taken.items (told_if g.L.Lent.tells (g.D.Disk.state d)) last c.add_over-answer.result)
    c.part_journal-founded.ensures.parts.same c.add_over-answer.ensures.came
