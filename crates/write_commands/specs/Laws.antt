-- What follows from the definitions of what an ingest leaves and tells.
use Rattle.std.specs.Prelude.{◌≡◌, ◌⊎◌, ◌≤◌, ℕ, Bool, true, false, List, ◌++◌, length, All, Some, IsSome}
use Rattle.std.specs.List.{Contains}
use Rattle.log_seams.specs.Disk.{DiskState}
use Rattle.record_format.specs.declared.header.Header.{Header}
use Rattle.archive_meaning.specs.declared.entry.JournalEntry.{JournalEntry}
use Rattle.message_reader.specs.Versions.{MessagesOf}
use Rattle.row_codec.specs.declared.namer.Which.{Which}
use Rattle.ingest_meaning.specs.Parts.{IsCut, IsOpen, Part}
use Rattle.command_refusals.specs.Ending.{RoseIn}
use Rattle.command_refusals.specs.LogLimits.{IsLong, most_messages}
use Rattle.command_answers.specs.Ingested.{DidNotFit, FileOutcome, IsFullBehind, IsGiven, Logs}

-- ---- logs that were not opened

-- the log was not opened, or its bytes are told
abbrev pub IsUnopenedOrTold : FileOutcome → Type 0
IsUnopenedOrTold c = (c.opened ≡ false) ⊎ IsSome c.log

-- the file's log was opened, its bytes are told, and the message is one of theirs
pub record IsOfTold (version : ℕ) (c : FileOutcome) (message : List ℕ) : Type 0 where
  pub opened : c.opened ≡ true
  pub bytes : List ℕ
  pub told : c.log ≡ Some bytes
  pub messages : List (List ℕ)
  pub ended : Bool
  pub are : MessagesOf version bytes messages ended
  pub one : Contains messages message

-- A log that was not opened, of whose bytes nothing is told, says nothing of the messages of the others: each that is given
-- is one of told bytes.
abbrev pub UnopenedGiveNothing : Type 0
UnopenedGiveNothing =
    (version : ℕ) (came : List FileOutcome) (message : List ℕ) → All IsUnopenedOrTold came → IsGiven version came message
    → (c : FileOutcome) × Contains came c × IsOfTold version c message

-- ---- a rest that did not fit

-- Nothing keeps a log with these messages from being read to its end: its bytes are told, no read of it failed, none of its lines
-- is too long, it has not too many messages, and no dictionary is full at one of them.
pub record IsReadable (logs : Logs) (came : List FileOutcome) (h : Header) (es : List JournalEntry) (c : FileOutcome)
    (messages : List (List ℕ)) : Type 0 where
  pub bytes : List ℕ
  pub told : c.log ≡ Some bytes
  pub ended : Bool
  pub are : MessagesOf h.version bytes messages ended
  pub read : ¬ RoseIn (logs.reads c.name)
  pub short : (line : ℕ) → ¬ IsLong bytes line
  pub few : length messages ≤ most_messages
  pub free : (taken : List (List ℕ)) (book : Which) (count : ℕ) → ¬ IsFullBehind came h es c taken book count

-- The part stands behind the messages that were taken in, and is whole, or is less and has all that are left.
pub record IsWholeOrRest (rows : ℕ) (messages : List (List ℕ)) (c : FileOutcome) : Type 0 where
  pub sealed : List (List ℕ)
  pub count : c.messages ≡ length sealed
  pub part : Part
  pub cut : IsCut rows part ⊎ (IsOpen rows part × (sealed ++ part.messages ≡ messages))

-- What did not fit of such a log, behind which the disk is so, is the next whole part, or all that is left of it.
abbrev pub RestsEndTheirLog : DiskState → Type 0
RestsEndTheirLog new =
    (logs : Logs) (rows first : ℕ) (came : List FileOutcome) (h : Header) (named : List JournalEntry) (c : FileOutcome)
    (end need : ℕ) (messages : List (List ℕ))
    → DidNotFit logs rows first came h named new c end need → IsReadable logs came h named c messages
    → IsWholeOrRest rows messages c
