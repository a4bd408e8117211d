use Rattle.std.proofs.Common.{rules, ◌+◌, ◌≤◌, [], ◌∷◌}
use Rattle.disk_journal.specs.Calls.{HasAdded}
use Rattle.disk_journal.specs.Journal.{state_of}
use Rattle.ingest_meaning.specs.Room.{files_record, files_size}
use Rattle.disk_seal.proofs.OpenLemmas.{registered}
use Rattle.disk_seal.proofs.files.register.Goals as goal

pub returns-in-Ok-clause-registered : goal.returns-in-Ok-clause-registered
returns-in-Ok-clause-registered g c =
    let added : HasAdded (files_record c.args.names.now ∷ []) (files_size c.args.names.now) (state_of c.args.journal.now) (state_of c.append.new.self) = search rules in
    let fits : c.args.journal.now.place + 1 + files_size c.args.names.now ≤ c.args.journal.now.header.length_limit = search rules in
    record { added = added; fits = fits; opens = registered (state_of c.args.journal.now) (state_of c.append.new.self) c.args.names.now c.args.held c.requires.names c.append.ensures.goes_on added fits }
