-- What came of files, as `ingest` tells it.
use Rattle.std.specs.Prelude.{ℕ, List, Option, map}
use Rattle.command_answers.specs.Ingested.{FileOutcome}
use Rattle.file_outcomes.specs.declared.file_report.FileReport.{FileReport}

-- what came of a file, as it is told, where this is told of logs by their names
abbrev pub came_of : (List ℕ → Option (List ℕ)) → FileReport → FileOutcome
came_of content file = record {
  name = file.name.now;
  log = content file.name.now;
  opened = file.opened;
  messages = file.messages;
  whole = file.whole;
  refusal = file.refusal;
}

abbrev pub names_of : List FileReport → List (List ℕ)
names_of files = map (λ (file : FileReport). file.name.now) files
