-- What a source over the text of a file keeps.
use Rattle.std.specs.Prelude.{◌≡◌, ℕ, ◌≤◌, List, length, Option, None, Some, IfSome}
use Rattle.log_seams.specs.Disk.{DiskState, Rests}
use Rattle.archive_open.specs.Shown.{StandsForNone}
use Rattle.archive_text.specs.declared.cause.TextCause.{TextCause}
use Rattle.archive_text.specs.declared.walk.Walk.{Walk}
use Rattle.archive_text.specs.Caused.{CountsBy}
use Rattle.archive_text.specs.Told.{FileParts}
use Rattle.archive_text.specs.Way.{IsOnWay}

-- the file; what is told of its text, by the bytes that were seen then; the log types that were cut; the disk when the source
-- was made, and now; how far the writing came; how often a read has failed, and why
pub record Reading : Type 1 where
  pub file : FileParts
  pub told : Option (List ℕ)
  pub asked : Option (List ℕ)
  pub layouts : List (List ℕ)
  pub opened : DiskState
  pub disk : DiskState
  pub walk : Walk
  pub faults : ℕ
  pub cause : Option TextCause

-- a source that has not failed: what was given is the front of the text that is told
pub record IsGoing (r : Reading) : Type 0 where
  pub within : r.walk.lines.sent ≤ length r.walk.lines.gathered.items
  pub quiet : r.faults ≡ 0
  pub text :
      (text : List ℕ) → r.told ≡ Some text
      → (bytes : List ℕ) × (r.opened.seen ≡ Some bytes) × IsOnWay r.file.types r.file.words r.file.open_end bytes r.walk text

pub record IsReading (r : Reading) : Type 0 where
  pub layouts : r.layouts ≡ r.file.types
  pub same : r.opened.seen ≡ r.asked
  pub rests : Rests r.opened r.disk
  pub counts : CountsBy r.opened.faults r.disk.faults r.cause
  pub untold : r.told ≡ None → IfSome r.opened.seen StandsForNone
  pub damaged : r.cause ≡ Some TextCause.Damaged → IfSome r.opened.seen StandsForNone
  pub going : r.cause ≡ None → IsGoing r
