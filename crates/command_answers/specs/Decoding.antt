-- What `decode` prints: the bytes of a file.
use Rattle.std.specs.Prelude.{◌≡◌, ◌⊎◌, ◌<◌, ◌≤◌, ℕ, List, Option, Some, Result, Ok, Err, length, slice_get, is_ok}
use Rattle.log_seams.specs.Disk.{DiskState}
use Rattle.log_seams.specs.Outside.{Rose}
use Rattle.sink_pieces.specs.Output.{Took}
use Rattle.record_format.specs.declared.header.Header.{Header}
use Rattle.archive_meaning.specs.declared.entry.JournalEntry.{JournalEntry}
use Rattle.archive_meaning.specs.Held.{File, content_of, file_text}
use Rattle.archive_meaning.specs.Stands.{StandsFor}
use Rattle.command_refusals.specs.Outside.{Outside}
use Rattle.command_refusals.specs.Ending.{RoseIn}
use Rattle.command_refusals.specs.Reading.{OverJournal}
use Rattle.command_refusals.specs.declared.outcome.FileRefusal.{FileRefusal}
use Rattle.command_refusals.specs.declared.outcome.FileRefusal.TheVariants.{OutOfMemory}

-- Where the journal has a file of this number, the output took the file's bytes, or a front of them where the command was
-- refused.
abbrev pub PrintsFile : Result Unit FileRefusal → ℕ → Option (List ℕ) → Option (List ℕ) → Option (List ℕ) → Type 0
PrintsFile answer number bytes old new =
    OverJournal bytes (λ held. (file : File) → slice_get (content_of held) number ≡ Some file
    → Took (is_ok answer) old new (file_text file))

-- a refusal for want of the file: the journal has so many files, which are not above the number, and nothing was printed
pub record LacksFile (number told count : ℕ) (bytes old new : Option (List ℕ)) : Type 0 where
  pub same : told ≡ number
  pub absent : count ≤ number
  pub all : OverJournal bytes (λ held. count ≡ length (content_of held))
  pub nothing : new ≡ old

-- where the journal has the file, no call of the disk and no write to the output failed, it is printed, or memory ended
abbrev pub IsCompleteFile : ℕ → Outside → DiskState → DiskState → Result Unit FileRefusal → Type 0
IsCompleteFile number seen old new answer =
    (bytes : List ℕ) (h : Header) (es : List JournalEntry) (stood : StandsFor bytes h es) → old.seen ≡ Some bytes
    → number < length (content_of stood.legal.held)
    → ¬ Rose old.faults new.faults → ¬ RoseIn seen.out_faults → (answer ≡ Ok tt) ⊎ (answer ≡ Err OutOfMemory)
