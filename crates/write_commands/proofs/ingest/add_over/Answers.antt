use Rattle.std.proofs.Common.{map, subst, sym}
use Rattle.log_sources.specs.Sources.{str_bytes}
use Rattle.command_refusals.specs.GoesOn.{DiskGoesOn}
use Rattle.write_commands.specs.Followed.{FollowsBy}
use Rattle.write_commands.specs.IngestPrints.{came_of}
use Rattle.write_commands.specs.StepsAdding.{AddsOrRefuses}
use Rattle.file_outcomes.specs.StepsCauses.{logs_around}
use Rattle.write_commands.proofs.ingest.add_over.Goals as goal

pub add_opened-added-requires-clause-held : goal.add_opened-added-requires-clause-held
add_opened-added-requires-clause-held g c κs within = c.requires.held _

pub add_opened-added-requires-clause-beside : goal.add_opened-added-requires-clause-beside
add_opened-added-requires-clause-beside g c κs within = let may = c.requires.beside 0 in record { within = may.within; stands = may.stands; running = may.running }

pub returns-clause-came : goal.returns-clause-came
returns-clause-came g c =
    let done = c.add_opened-added.ensures in
    let logs = logs_around g.H.Shelf.unread g.H.Shelf.open_faults g.H.Shelf.read_faults c.args.shelf.now c.add_opened-added.new.shelf in
    subst (λ d. AddsOrRefuses (g.H.Shelf.content c.args.shelf.now) logs c.args.asked c.add_opened-added.new.taken.items (g.D.Disk.state c.args.disk.now) (g.D.Disk.state d) c.add_opened-added.result.answer)
    (sym (c.disk-1.given.1 (sym done.goes_on.name))) done.came

pub returns-clause-followed : goal.returns-clause-followed
returns-clause-followed g c =
    let done = c.add_opened-added.ensures in
    let came = map (came_of (g.H.Shelf.content c.args.shelf.now)) c.add_opened-added.new.taken.items in
    subst (λ d. FollowsBy g.B.Beside.known c.args.asked.segment (map str_bytes c.args.asked.files.now) came (g.D.Disk.state c.args.disk.now) (g.D.Disk.state d) c.args.beside.now c.add_opened-added.new.beside c.add_opened-added.result.answer)
    (sym (c.disk-1.given.1 (sym done.goes_on.name))) done.followed

pub returns-clause-goes_on : goal.returns-clause-goes_on
returns-clause-goes_on g c =
    let done = c.add_opened-added.ensures in
    subst (λ d. DiskGoesOn (g.D.Disk.state c.args.disk.now) (g.D.Disk.state d)) (sym (c.disk-1.given.1 (sym done.goes_on.name))) done.goes_on.disk
