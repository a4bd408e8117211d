-- The steps of an ingest that is watched.
use Rattle.std.specs.Prelude.{◌≡◌, ◌≢◌, ◌⊎◌, ℕ, List, ◌∷◌, map, Option, Some}
use Rattle.log_seams.specs.Disk.{DiskState}
use Rattle.record_format.specs.declared.header.Header.{Header}
use Rattle.wild_match.specs.declared.pattern.Item.{Item}
use Rattle.archive_meaning.specs.declared.entry.JournalEntry.{JournalEntry}
use Rattle.archive_meaning.specs.declared.entry.JournalEntry.TheVariants.{Files}
use Rattle.archive_meaning.specs.Stands.{StandsFor}
use Rattle.sink_pieces.specs.Output.{Grew, GrewByFront}
use Rattle.live_search.specs.declared.refusal.LiveRefusal.{LiveRefusal}
use Rattle.file_lines.specs.Directory.{directory_from}
use Rattle.command_refusals.specs.Outside.{Outside}
use Rattle.command_refusals.specs.Ending.{RoseIn, Stayed, TookNothing}
use Rattle.command_refusals.specs.Outcome.{answer_of, of_read}
use Rattle.command_refusals.specs.declared.outcome.ReadRefusal.{ReadRefusal}
use Rattle.command_answers.specs.Ingested.{FileOutcome, FromArchive, Logs, TakesIn, line_of_came}
use Rattle.command_answers.specs.Watching.{HasReaderCause, TellsCut, TellsFiles, TellsLive}
use Rattle.file_outcomes.specs.declared.file_report.FileReport.{FileReport}
use Rattle.write_commands.specs.declared.ingest.NewLogs.{NewLogs}
use Rattle.write_commands.specs.IngestPrints.{came_of}
use Rattle.write_commands.specs.StepsAdding.{AddsNewLogs, names_asked}
use Rattle.watch_command.specs.declared.adding.Watched.{Watched}

-- the refusal of a reader as that of a command that reads
abbrev pub from_live : LiveRefusal → ReadRefusal
from_live LiveRefusal.DiskFault = ReadRefusal.DiskFault
from_live LiveRefusal.SinkFault = ReadRefusal.SinkFault
from_live (LiveRefusal.Damaged at) = ReadRefusal.Damaged at
from_live LiveRefusal.OutOfMemory = ReadRefusal.OutOfMemory

-- the output took a text that is that of these entries
pub record PrintsLive (h : Header) {before : List JournalEntry} {bytes : List ℕ} (stood : StandsFor bytes h before)
    (items : List Item) (added : List JournalEntry) (reader : Option ReadRefusal) (out : Option (List ℕ) × Option (List ℕ))
    : Type 0 where
  pub text : List ℕ
  pub tells : TellsLive h stood items added reader text
  pub grew : Grew out.0 out.1 text

-- The reader ended so beside the files that were taken in. Only a write to the output that it tells failed.
pub record WasWatched (rows : ℕ) (items : List Item) (names : List (List ℕ)) (came : List FileOutcome) (reader : Option ReadRefusal)
    (out : Option (List ℕ) × Option (List ℕ)) (counts : ℕ × ℕ) (old new : DiskState) : Type 0 where
  pub cause : HasReaderCause counts old new reader
  pub steady : reader ≢ Some ReadRefusal.SinkFault → Stayed counts
  pub live : FromArchive old (λ h before bytes stood. (t : TakesIn rows h before stood names came old new)
      × PrintsLive h stood items (Files names ∷ t.added) reader out)

-- The logs were added as new files, and the reader of this pattern ended so beside them.
pub record AddsWatched (content : List ℕ → Option (List ℕ)) (logs : Logs) (asked : NewLogs) (items : List Item) (w : Watched)
    (reports : List FileReport) (out : Option (List ℕ) × Option (List ℕ)) (counts : ℕ × ℕ) (old new : DiskState) : Type 0 where
  pub adds : AddsNewLogs content logs asked w.first reports old new
  pub watched : WasWatched asked.segment items (names_asked asked) (map (came_of content) reports) (answer_of w.reader) out counts
      old new

-- What came of each file is printed, behind a reader that ended so; nothing is where a write of it failed.
abbrev pub PrintsRest : Option ReadRefusal → List FileOutcome → ℕ → Outside → ℕ → Type 0
PrintsRest reader came first seen status =
    (TellsFiles reader came seen status × (reader ≢ Some ReadRefusal.SinkFault)
    × Grew seen.out.0 seen.out.1 (directory_from first (map line_of_came came)) × Stayed seen.out_faults)
    ⊎ (TellsFiles reader came seen status × (reader ≡ Some ReadRefusal.SinkFault)
    × TookNothing seen.out × Stayed seen.out_faults)
    ⊎ (TellsCut reader (of_read ReadRefusal.SinkFault) seen status × (reader ≢ Some ReadRefusal.SinkFault)
    × GrewByFront seen.out.0 seen.out.1 (directory_from first (map line_of_came came)) × RoseIn seen.out_faults)
    ⊎ (TellsCut reader (of_read ReadRefusal.OutOfMemory) seen status × (reader ≢ Some ReadRefusal.SinkFault)
    × GrewByFront seen.out.0 seen.out.1 (directory_from first (map line_of_came came)) × Stayed seen.out_faults)
