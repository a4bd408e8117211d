use Rattle.std.proofs.Common.{map, subst}
use Rattle.live_search.specs.Reader.{live_follower}
use Rattle.log_sources.specs.Sources.{str_bytes}
use Rattle.command_answers.specs.Known.{told_if}
use Rattle.write_commands.specs.Followed.{FollowsBy, MayBeginAt}
use Rattle.write_commands.specs.IngestPrints.{came_of}
use Rattle.file_outcomes.specs.Naming.{IsHeldBy}
use Rattle.write_commands.specs.StepsAdding.{AddsOrRefuses}
use Rattle.file_outcomes.specs.StepsCauses.{logs_around}
use Rattle.file_outcomes.proofs.LentLemmas.{of_parts}
use Rattle.watch_command.proofs.adding.add_founded.Goals as goal

pub add_over-answer-requires-clause-held : goal.add_over-answer-requires-clause-held
add_over-answer-requires-clause-held g c κs within = λ name.
    of_parts (λ j. IsHeldBy j c.args.holding.types c.args.holding.words c.args.holding.files) g.L.Lent.tells name
    c.args.journal c.part_journal-founded.result.founded.disk.now c.part_journal-founded.result.end c.part_journal-founded.ensures.parts (c.requires.held name)

pub add_over-answer-requires-clause-beside : goal.add_over-answer-requires-clause-beside
add_over-answer-requires-clause-beside g c κs within = λ name.
    of_parts (λ j. MayBeginAt (live_follower g.K.Sink.written c.args.reader.now) j) g.L.Lent.tells name
    c.args.journal c.part_journal-founded.result.founded.disk.now c.part_journal-founded.result.end c.part_journal-founded.ensures.parts (c.requires.reader name)

pub returns-clause-came : goal.returns-clause-came
returns-clause-came g c =
    let logs = logs_around g.H.Shelf.unread g.H.Shelf.open_faults g.H.Shelf.read_faults c.args.shelf.now c.add_over-answer.new.shelf in
    let last = told_if g.L.Lent.tells (g.D.Disk.state c.add_over-answer.new.disk.disk.now) in
    subst (λ d. AddsOrRefuses (g.H.Shelf.content c.args.shelf.now) logs c.args.asked c.add_over-answer.new.taken.items (told_if g.L.Lent.tells (g.D.Disk.state d)) last c.add_over-answer.result)
    c.part_journal-founded.ensures.parts.same c.add_over-answer.ensures.came

pub returns-clause-followed : goal.returns-clause-followed
returns-clause-followed g c =
    let came = map (came_of (g.H.Shelf.content c.args.shelf.now)) c.add_over-answer.new.taken.items in
    let last = told_if g.L.Lent.tells (g.D.Disk.state c.add_over-answer.new.disk.disk.now) in
    subst (λ d. FollowsBy (live_follower g.K.Sink.written) c.args.asked.segment (map str_bytes c.args.asked.files.now) came (told_if g.L.Lent.tells (g.D.Disk.state d)) last c.args.reader.now c.add_over-answer.new.beside c.add_over-answer.result)
    c.part_journal-founded.ensures.parts.same c.add_over-answer.ensures.followed
