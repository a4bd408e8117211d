use Rattle.std.proofs.Common.{map, refl, ◌∙◌}
use Rattle.disk_journal.specs.Journal.{state_of}
use Rattle.log_sources.specs.Sources.{str_bytes}
use Rattle.write_commands.specs.IngestPrints.{came_of}
use Rattle.file_outcomes.specs.Naming.{HasGoneOn}
use Rattle.command_refusals.proofs.GoingLemmas.{DiskGoesOn-joined}
use Rattle.write_commands.proofs.CameLemmas.{names_came}
use Rattle.write_commands.proofs.FollowLemmas.{follows_sooner, may_named}
use Rattle.file_outcomes.proofs.HeldLemmas.{held_synced}
use Rattle.file_outcomes.proofs.StepsLemmas.{numbered_from, same_looked, takes_sooner}
use Rattle.write_commands.proofs.WholeLemmas.{causes_sooner}
use Rattle.write_commands.proofs.ingest.add_opened.Goals as goal

-- ---- refused

pub returns-in-Err-clause-came : goal.returns-in-Err-clause-came
returns-in-Err-clause-came g c = record { added = tt; refused = record { cause = c.in-Err.ensures.cause; nothing = c.in-Err.ensures.nothing } }

pub returns-in-Err-clause-followed : goal.returns-in-Err-clause-followed
returns-in-Err-clause-followed g c = record { followed = tt; rests = refl }

pub returns-in-Err-clause-goes_on : goal.returns-in-Err-clause-goes_on
returns-in-Err-clause-goes_on g c = record { name = c.name_files.ensures.name; disk = c.name_files.ensures.goes_on }

-- ---- taken in

pub take_in-journal-requires-clause-beside : goal.take_in-journal-requires-clause-beside
take_in-journal-requires-clause-beside g c κs within = may_named (g.B.Beside.known c.args.beside.now) (map str_bytes c.args.asked.files.now) c.args.journal c.name_files.new.journal c.in-Ok.ensures.more c.requires.beside

pub returns-clause-goes_on : goal.returns-clause-goes_on
returns-clause-goes_on g c =
    let law = (g.met.D.Disk g.world.𝓛 g.world.𝓜 g.world.𝓡 ((λ s x. x), (λ x. x), (λ x. x), λ x. x)).lawful in
    let done = c.take_in-journal.ensures in
    record { name = done.goes_on.name ∙ c.name_files.ensures.name; disk = DiskGoesOn-joined _ _ _ (law _) c.name_files.ensures.goes_on done.goes_on.disk }

pub returns-clause-came : goal.returns-clause-came
returns-clause-came g c =
    let law = (g.met.D.Disk g.world.𝓛 g.world.𝓜 g.world.𝓡 ((λ s x. x), (λ x. x), (λ x. x), λ x. x)).lawful in
    let old = g.D.Disk.state c.args.journal.disk.now in
    let looked = same_looked old (law _) in
    let named = c.in-Ok.ensures.names in
    let names = map str_bytes c.args.asked.files.now in
    let files = c.take_in-journal.new.taken.items in
    let came = map (came_of (g.H.Shelf.content c.args.shelf.now)) files in
    let first = c.in-Ok.named.first in
    let done = c.take_in-journal.ensures in
    record {
      added = record {
        names = done.names;
        number = numbered_from old old names first (state_of c.name_files.new.journal) refl (held_synced (state_of c.args.journal) c.requires.held.opens) named;
        taken = takes_sooner old old old looked names first came (state_of c.name_files.new.journal) (state_of c.take_in-journal.result) (law _) c.name_files.ensures.goes_on.counts done.goes_on.disk named done.taken;
        causes = causes_sooner old old old looked _ c.args.asked.workers c.args.asked.segment names first (state_of c.name_files.new.journal) _ came c.name_files.ensures.goes_on.counts (names_came (g.H.Shelf.content c.args.shelf.now) files ∙ done.names) named done.causes;
      };
      refused = tt;
    }

pub returns-clause-followed : goal.returns-clause-followed
returns-clause-followed g c =
    let law = (g.met.D.Disk g.world.𝓛 g.world.𝓜 g.world.𝓡 ((λ s x. x), (λ x. x), (λ x. x), λ x. x)).lawful in
    let done = c.take_in-journal.ensures in
    let named : HasGoneOn c.args.journal c.name_files.new.journal = record { name = c.name_files.ensures.name; disk = c.name_files.ensures.goes_on } in
    let came = map (came_of (g.H.Shelf.content c.args.shelf.now)) c.take_in-journal.new.taken.items in
    let followed = follows_sooner (g.B.Beside.known c.args.beside.now) (g.B.Beside.known c.take_in-journal.new.beside) c.args.journal c.name_files.new.journal c.take_in-journal.result (law _) (law _) (same_looked _ (law _))
    named done.goes_on c.args.asked.segment (map str_bytes c.args.asked.files.now) c.in-Ok.named.first came c.in-Ok.ensures.names done.taken done.along in
    record { followed = followed; rests = tt }
