-- What `bench` leaves and prints: an archive of the four generated logs, and how many of its messages a pattern matches.
use Rattle.std.proofs.Common.{inl, inr}
use Rattle.std.specs.Prelude.{◌≡◌, ◌⊎◌, ◌*◌, ◌≤◌, ℕ, Bool, true, false, List, [], ◌∷◌, ◌++◌, length, map, All, codes, is_ok, Option, Some, None, option_map, Result, Err, IfSome}
use Rattle.std.specs.Fmt.{decimal}
use Rattle.std.specs.List.{flat_map, sum_by}
use Rattle.log_seams.specs.Disk.{DiskState}
use Rattle.log_seams.specs.Outside.{CountsOf, Rose}
use Rattle.sink_pieces.specs.Output.{Grew, GrewByFront}
use Rattle.wild_match.specs.Reading.{IsSearchPattern}
use Rattle.wild_match.specs.declared.pattern.Item.{Item}
use Rattle.record_format.specs.Header.{header_bytes}
use Rattle.record_format.specs.declared.header.Header.{Header}
use Rattle.archive_meaning.specs.declared.entry.JournalEntry.{JournalEntry}
use Rattle.archive_meaning.specs.Held.{Held, content_of}
use Rattle.archive_meaning.specs.Stands.{StandsFor}
use Rattle.archive_open.specs.Shown.{RefusedAt, places_of}
use Rattle.printed_lines.specs.Lines.{Placed}
use Rattle.search_meaning.specs.Scan.{AreFound, all_placed}
use Rattle.search_meaning.specs.Journal.{OfJournal, asked}
use Rattle.disk_journal.specs.Created.{CreateLeaves}
use Rattle.disk_journal.specs.declared.record.TheConstants.{CLOSED_GATE}
use Rattle.disk_journal.specs.declared.refusals.CreateRefusal.{CreateRefusal}
use Rattle.generated_logs.specs.Logs.{content_of as generated, name_of}
use Rattle.command_refusals.specs.Outside.{Outside}
use Rattle.command_refusals.specs.Ending.{EndsWith, SaysIn, Stayed, TookNothing}
use Rattle.command_answers.specs.Ingested.{AllFit, AreFullInTurn, FileOutcome, CameOfFile, TakesIn, TakesNothing}
use Rattle.command_refusals.specs.Outcome.{answer_of, of_add, of_create, of_read}
use Rattle.command_refusals.specs.Refusal.{TellsNoMemory}
use Rattle.command_answers.specs.Taken.{file_error, file_status, gravest}
use Rattle.command_refusals.specs.declared.outcome.ReadRefusal.{ReadRefusal}
use Rattle.command_refusals.specs.declared.outcome.ReadRefusal.TheVariants.{Damaged as ReadDamaged, DiskFault as ReadDiskFault, SinkFault as ReadSinkFault}
use Rattle.command_refusals.specs.declared.outcome.AddRefusal.{AddRefusal}
use Rattle.command_refusals.specs.declared.outcome.PartCause.{PartCause}

-- ---- the summary

-- what is searched for
abbrev pub sought : List ℕ
sought = codes "task_*3 took"

-- so many messages of a journal are found, whatever their time, and it has so many segments
pub record AreCounted (h : Header) (es : List JournalEntry) (held : Held) (matched segments : ℕ) : Type 0 where
  pub items : List Item
  pub pattern : IsSearchPattern sought items
  pub found : List Placed
  pub are_found : AreFound h.version (asked items (record { from = None; to = None })) (all_placed (content_of held)) found
  pub matched_is : matched ≡ length found
  pub segments_is : segments ≡ length (places_of es)

-- how many messages there are, how many are found, and how many segments there are
abbrev pub summary : ℕ → ℕ → ℕ → List ℕ
summary messages matched segments =
    codes "messages " ++ (decimal messages ++ (codes " matched " ++ (decimal matched
    ++ (codes " segments " ++ (decimal segments ++ 10 ∷ [])))))

-- the output took the summary of the journal that the bytes stand for, or what `took` says of it
pub record TellsSummary (took : List ℕ → Type 0) (messages : ℕ) (bytes : Option (List ℕ)) : Type 0 where
  pub matched : ℕ
  pub segments : ℕ
  pub counted : OfJournal bytes (λ h es held. AreCounted h es held matched segments)
  pub text : took (summary messages matched segments)

-- The output took the summary; or a front of it, or nothing, where the command was refused.
abbrev pub PrintsSummary : Bool → ℕ → Option (List ℕ) → Option (List ℕ) → Option (List ℕ) → Type 0
PrintsSummary true messages bytes old new = TellsSummary (Grew old new) messages bytes
PrintsSummary false messages bytes old new = (new ≡ old) ⊎ TellsSummary (GrewByFront old new) messages bytes

-- ---- what came of the logs

-- the same around with these logs, of which no opening and no read fails
abbrev pub with_logs : (List ℕ → Option (List ℕ)) → Outside → Outside
with_logs content seen = record seen { content = content; opens = λ name. (0, 0); reads = λ name. (0, 0) }

-- why a generated log is not whole: a dictionary or the archive is full, a call of the disk failed, or memory ended
abbrev pub MayRefuseLog : Option PartCause → Type 0
MayRefuseLog None = Unit {0}
MayRefuseLog (Some (PartCause.Full book count)) = Unit {0}
MayRefuseLog (Some (PartCause.ArchiveFull end need)) = Unit {0}
MayRefuseLog (Some PartCause.DiskFault) = Unit {0}
MayRefuseLog (Some PartCause.OutOfMemory) = Unit {0}
MayRefuseLog (Some _) = ⊥

-- nothing else is refused of the file
abbrev pub IsSpared : FileOutcome → Type 0
IsSpared c = MayRefuseLog c.refusal

-- nothing was refused of the file
abbrev pub IsTakenWhole : FileOutcome → Type 0
IsTakenWhole c = c.refusal ≡ None

-- Some log was not taken whole: each such has its line on the error output, and the status is the gravest. Nothing is printed.
pub record TellsParts (came : List FileOutcome) (seen : Outside) (status : ℕ) : Type 0 where
  pub part : ¬ All IsTakenWhole came
  pub status_is : status ≡ gravest (map (λ c. file_status c.refusal) came)
  pub said : SaysIn seen (flat_map (λ c. file_error c.name c.refusal) came)
  pub nothing : TookNothing seen.out
  pub sink : Stayed seen.out_faults

-- All logs were taken whole, and their messages are summed up; or this was refused with a cause.
pub record SumsUp (came : List FileOutcome) (seen : Outside) (old new : DiskState) (status : ℕ) : Type 0 where
  pub whole : All IsTakenWhole came
  pub answer : Result Unit ReadRefusal
  pub ends : EndsWith seen [] status (option_map of_read (answer_of answer))
  pub prints : PrintsSummary (is_ok answer) (sum_by (λ c. c.messages) came) new.seen seen.out.0 seen.out.1
  pub disk : answer ≡ Err ReadDiskFault → Rose old.faults new.faults
  pub sink : CountsOf ReadSinkFault seen.out_faults.0 seen.out_faults.1 answer
  pub damaged : (at : ℕ) → answer ≡ Err (ReadDamaged at) → RefusedAt at new.seen

-- how many rows a segment has at most
abbrev pub segment_rows : ℕ
segment_rows = 65536

-- the names of the four generated logs
abbrev pub generated_names : List (List ℕ)
generated_names = name_of 0 ∷ name_of 1 ∷ name_of 2 ∷ name_of 3 ∷ []

-- ---- the answer

-- the limits of the archive that is made, which are those of `create` without options
abbrev pub default_header : Header
default_header = record { version = 1; types_limit = 16777216; words_limit = 2147483648; length_limit = 1099511627776 }

-- the bytes of the archive that is made
abbrev pub made_bytes : List ℕ
made_bytes = header_bytes default_header ++ CLOSED_GATE ∷ []

-- the disk with these bytes, where it tells its bytes; a crash leaves these and no others
abbrev pub as_made : DiskState → DiskState
as_made d = record {
  seen = option_map (λ _. made_bytes) d.seen;
  images = λ c. c ≡ made_bytes;
  clock = d.clock;
  since = d.since;
  ranges = d.ranges;
  faults = d.faults;
}

-- the same with the clock at another moment, from which on what a crash may leave is told
abbrev pub at_moment : ℕ → DiskState → DiskState
at_moment t d = record { seen = d.seen; images = d.images; clock = t; since = d.since; ranges = d.ranges; faults = d.faults }

-- Where the disk tells its bytes, it had none, and an empty archive was made of it: from a moment of the call on, at which a
-- crash left that archive, this holds of the disk.
abbrev pub FromEmpty : DiskState → DiskState → (DiskState → (bytes : List ℕ) → StandsFor bytes default_header [] → Type 0)
    → Type 0
FromEmpty old new P =
    IfSome old.seen (λ was. (was ≡ [])
    × ((t : ℕ) × ((old.clock ≤ t) × new.since t made_bytes)
    × ((bytes : List ℕ) × ((stood : StandsFor bytes default_header []) × P (at_moment t old) bytes stood))))

-- The archive was not made.
pub record RefusesMaking (seen : Outside) (old new : DiskState) (status : ℕ) : Type 0 where
  pub refusal : CreateRefusal
  pub ends : EndsWith seen [] status (Some (of_create refusal))
  pub leaves : CreateLeaves (Err refusal) default_header old new
  pub nothing : TookNothing seen.out
  pub sink : Stayed seen.out_faults

-- what a refusal rests on after the archive was made; want of memory is free
abbrev pub HasLogsCause : DiskState → DiskState → AddRefusal → Type 0
HasLogsCause old new AddRefusal.DiskFault = Rose old.faults new.faults
HasLogsCause old new AddRefusal.OutOfMemory = Unit {0}
HasLogsCause old new (AddRefusal.Damaged at) = IfSome old.seen (λ _. ⊥)
HasLogsCause old new (AddRefusal.TooManyFiles held more) = IfSome old.seen (λ _. ⊥)
HasLogsCause old new (AddRefusal.ArchiveFull end need) = IfSome old.seen (λ _. ⊥)
HasLogsCause old new _ = ⊥

-- The archive was made, and its files were not named.
pub record RefusesLogs (seen : Outside) (old new : DiskState) (status : ℕ) : Type 0 where
  pub refusal : AddRefusal
  pub ends : EndsWith seen [] status (Some (of_add refusal))
  pub nothing : TookNothing seen.out
  pub sink : Stayed seen.out_faults
  pub cause : HasLogsCause old new refusal
  pub disk : FromEmpty old new (λ from bytes stood. TakesNothing default_header [] from new)

-- The four logs were taken into the archive that was made, and it was told what came of them. Of each the cause is told as
-- `ingest` tells it, with one worker too, and what was taken in fits in the dictionaries. Where all are whole, each has as many
-- messages as lines.
pub record TakesLogs (number lines workers : ℕ) (seen : Outside) (old new : DiskState) (status : ℕ) : Type 0 where
  pub came : List FileOutcome
  pub names_are : map (λ c. c.name) came ≡ generated_names
  pub logs : All (λ c. c.log ≡ generated number lines c.name) came
  pub disk : FromEmpty old new
      (λ from bytes stood. TakesIn segment_rows default_header [] stood generated_names came from new)
  pub each : All (CameOfFile segment_rows came (with_logs (generated number lines) seen) (as_made old) new) came
  pub in_turn : workers ≡ 1 → AreFullInTurn segment_rows (as_made old) came
  pub fits : AllFit (as_made old) came
  pub spared : All IsSpared came
  pub all : All IsTakenWhole came → IfSome old.seen (λ _. sum_by (λ c. c.messages) came ≡ 4 * lines)
  pub told : TellsParts came seen status ⊎ SumsUp came seen old new status

-- How `bench` ends.
abbrev pub EndsBench : ℕ → ℕ → ℕ → Outside → DiskState → DiskState → ℕ → Type 0
EndsBench number lines workers seen old new status =
    RefusesMaking seen old new status ⊎ RefusesLogs seen old new status ⊎ TakesLogs number lines workers seen old new status

-- no dictionary was full at the file, nor the archive
abbrev pub MeetsNoLimit : Option PartCause → Type 0
MeetsNoLimit (Some (PartCause.Full book count)) = ⊥
MeetsNoLimit (Some (PartCause.ArchiveFull end need)) = ⊥
MeetsNoLimit _ = Unit {0}

-- so it was at each log that was taken in
abbrev pub MetNoLimit : {number lines workers : ℕ} {seen : Outside} {old new : DiskState} {status : ℕ}
    → EndsBench number lines workers seen old new status → Type 0
MetNoLimit (inl making) = Unit {0}
MetNoLimit (inr (inl refused)) = Unit {0}
MetNoLimit (inr (inr takes)) = All (λ c. MeetsNoLimit c.refusal) takes.came

-- the summary was printed, with all messages of the four logs, or memory ended
abbrev pub SumsUpAll : ℕ → Outside → DiskState → ℕ → Type 0
SumsUpAll lines seen new status =
    ((status ≡ 0) × TellsSummary (Grew seen.out.0 seen.out.1) (4 * lines) new.seen) ⊎ TellsNoMemory status
