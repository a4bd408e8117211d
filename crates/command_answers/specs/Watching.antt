-- What `ingest --watch` leaves and prints: what `ingest` does, and before its lines one for each message in the segments that were
-- added which a pattern matches.
use Rattle.std.specs.Prelude.{◌≡◌, ◌≢◌, ◌⊎◌, ℕ, List, [], ◌∷◌, ◌++◌, map, Option, Some, None, option_map, IfSome, IsNone}
use Rattle.std.specs.List.{flat_map}
use mathlib.Core.List.{IsPrefix}
use Rattle.log_seams.specs.Disk.{DiskState}
use Rattle.log_seams.specs.Outside.{Rose}
use Rattle.record_format.specs.declared.header.Header.{Header}
use Rattle.wild_match.specs.declared.pattern.Item.{Item}
use Rattle.archive_meaning.specs.declared.entry.JournalEntry.{JournalEntry}
use Rattle.archive_meaning.specs.declared.entry.JournalEntry.TheVariants.{Files}
use Rattle.archive_meaning.specs.Held.{Held}
use Rattle.archive_meaning.specs.Stands.{StandsFor}
use Rattle.sink_pieces.specs.Output.{Grew, GrewByFront}
use Rattle.printed_lines.specs.Lines.{Placed, lines_of}
use Rattle.search_meaning.specs.Live.{Live}
use Rattle.file_lines.specs.Directory.{directory_from}
use Rattle.command_refusals.specs.Outside.{Outside}
use Rattle.command_refusals.specs.Ending.{RoseIn, SaysIn, Stayed, error_line, exit_status}
use Rattle.command_refusals.specs.Outcome.{of_read}
use Rattle.command_refusals.specs.Refusal.{line_of, status_of}
use Rattle.command_refusals.specs.declared.refusal.Refusal.{Refusal}
use Rattle.command_refusals.specs.declared.outcome.ReadRefusal.{ReadRefusal}
use Rattle.command_answers.specs.Taken.{file_error, file_status, gravest, gravest_of_call}
use Rattle.command_answers.specs.Ingested.{FileOutcome, FromArchive, RefusesIngest, TakesFiles, TakesIn, line_of_came}

-- Why the reader read no further, where these are the counts of faults of the output. Over a disk that tells its bytes it finds no
-- damage. Want of memory is free.
abbrev pub HasReaderCause : ℕ × ℕ → DiskState → DiskState → Option ReadRefusal → Type 0
HasReaderCause counts old new None = Unit {0}
HasReaderCause counts old new (Some ReadRefusal.DiskFault) = Rose old.faults new.faults
HasReaderCause counts old new (Some (ReadRefusal.Damaged at)) = IsNone old.seen
HasReaderCause counts old new (Some ReadRefusal.SinkFault) = RoseIn counts
HasReaderCause counts old new (Some ReadRefusal.OutOfMemory) = Unit {0}

-- The text has a line for each message in the segments among these entries, behind those of an archive, that the pattern matches,
-- in the order of the journal; or it is a front of those lines, where the reader read no further.
pub record TellsLive (h : Header) {before : List JournalEntry} {bytes : List ℕ} (stood : StandsFor bytes h before)
    (items : List Item) (added : List JournalEntry) (reader : Option ReadRefusal) (text : List ℕ) : Type 0 where
  pub found : List Placed
  pub end : Held
  pub live : Live h items stood.legal.held added found end
  pub front : IsPrefix text (lines_of found)
  pub all : reader ≡ None → text ≡ lines_of found

-- First the error output has the line of the reader, if it read no further, and then this text. The status is the graver of the
-- reader's and this one.
pub record TellsFirst (reader : Option ReadRefusal) (other : ℕ) (text : List ℕ) (seen : Outside) (status : ℕ) : Type 0 where
  pub status_is : status ≡ gravest_of_call (exit_status (option_map of_read reader) ∷ other ∷ [])
  pub said : SaysIn seen (error_line [] (option_map of_read reader) ++ text)

-- then a line for each file that is not whole
abbrev pub TellsFiles : Option ReadRefusal → List FileOutcome → Outside → ℕ → Type 0
TellsFiles reader came seen status =
    TellsFirst reader (gravest (map (λ c. file_status c.refusal) came)) (flat_map (λ c. file_error c.name c.refusal) came)
    seen status

-- then why not all lines of the files were printed
abbrev pub TellsCut : Option ReadRefusal → Refusal → Outside → ℕ → Type 0
TellsCut reader refusal seen status = TellsFirst reader (status_of refusal) (line_of [] refusal) seen status

-- The reader printed this text, and what came of each file is printed behind it, numbered on from `first`. Where a write of the
-- reader failed no line of a file is printed.
abbrev pub PrintsBehind : Option ReadRefusal → List ℕ → List FileOutcome → ℕ → Outside → ℕ → Type 0
PrintsBehind reader text came first seen status =
    (TellsFiles reader came seen status × (reader ≢ Some ReadRefusal.SinkFault)
    × Grew seen.out.0 seen.out.1 (text ++ directory_from first (map line_of_came came)) × Stayed seen.out_faults)
    ⊎ (TellsFiles reader came seen status × (reader ≡ Some ReadRefusal.SinkFault)
    × Grew seen.out.0 seen.out.1 text × RoseIn seen.out_faults)
    ⊎ (TellsCut reader (of_read ReadRefusal.SinkFault) seen status × (reader ≢ Some ReadRefusal.SinkFault)
    × GrewByFront seen.out.0 seen.out.1 (text ++ directory_from first (map line_of_came came)) × RoseIn seen.out_faults)
    ⊎ (TellsCut reader (of_read ReadRefusal.OutOfMemory) seen status × (reader ≢ Some ReadRefusal.SinkFault)
    × GrewByFront seen.out.0 seen.out.1 (text ++ directory_from first (map line_of_came came)) × Stayed seen.out_faults)

-- The files were taken in. The reader printed a text, and this is printed behind it. Where the output tells what it took, the text
-- is that of the segments that were added.
pub record WatchesFiles (workers rows : ℕ) (items : List Item) (names : List (List ℕ)) (seen : Outside) (old new : DiskState)
    (status : ℕ) : Type 0 where
  pub takes : TakesFiles workers rows names seen old new
  pub reader : Option ReadRefusal
  pub cause : HasReaderCause seen.out_faults old new reader
  pub text : List ℕ
  pub printed : PrintsBehind reader text takes.adds.came takes.adds.first seen status
  pub live : FromArchive old (λ h before bytes stood. (t : TakesIn rows h before stood names takes.adds.came old new)
      × IfSome seen.out.0 (λ _. TellsLive h stood items (Files names ∷ t.added) reader text))

-- How `ingest --watch` ends.
abbrev pub EndsWatch : ℕ → ℕ → List Item → List (List ℕ) → Outside → DiskState → DiskState → ℕ → Type 0
EndsWatch workers rows items names seen old new status =
    RefusesIngest names seen old new status ⊎ WatchesFiles workers rows items names seen old new status
