-- What each command answers, in the order of the manual page, and what the program answers to its words.
use Rattle.std.specs.Prelude.{◌≡◌, ◌≢◌, ℕ, List, Option, Some, None, option_map, [], Result, Err, IfSome, ◌⊎◌, ◌<◌, Ok, length, Bool, is_ok, ℤ}
use Rattle.command_refusals.specs.Outside.{Outside}
use Rattle.command_refusals.specs.Ending.{EndsWith, NoneAdded, Stayed, RefusesPattern, TookNothing, RefusesAtOnce, RefusesPatternAtOnce, RoseIn, LacksMemoryAtOnce}
use Rattle.command_refusals.specs.Outcome.{of_log, answer_of, of_create, of_add, of_file}
use Rattle.command_refusals.specs.Refusal.{TellsNoMemory}
use Rattle.command_refusals.specs.declared.outcome.LogRefusal.{LogRefusal}
use Rattle.command_refusals.specs.declared.outcome.LogRefusal.TheVariants.{ReadFault, SinkFault}
use Rattle.command_answers.specs.Printing.{Printed, HasCause}
use Rattle.wild_match.specs.Reading.{IsSearchPattern, IsLoneBackslash}
use Rattle.wild_match.specs.declared.pattern.Item.{Item}
use Rattle.command_answers.specs.Scanned.{Finds}
use Rattle.log_seams.specs.Disk.{DiskState, KeepsBytes}
use Rattle.record_format.specs.declared.header.Header.{Header}
use Rattle.record_format.specs.declared.header.TheConstants.{LAST_VERSION}
use Rattle.archive_meaning.specs.declared.entry.JournalEntry.{JournalEntry}
use Rattle.archive_meaning.specs.Stands.{StandsFor}
use Rattle.disk_journal.specs.Created.{CreateLeaves}
use Rattle.disk_journal.specs.declared.refusals.CreateRefusal.{CreateRefusal}
use Rattle.command_answers.specs.Known.{KnownArchive, over}
use Rattle.command_answers.specs.Names.{RefusesNames}
use Rattle.command_refusals.specs.declared.outcome.AddRefusal.{AddRefusal}
use Rattle.command_answers.specs.Ingested.{EndsIngest, FromArchive, IfRefused, TellsDamage}
use Rattle.command_answers.specs.Watching.{EndsWatch}
use Rattle.command_answers.specs.Merging.{MayCome, MeetsNoLimit, Merge, Merges, PrintsMerge, TellsInOrder}
use Rattle.command_answers.specs.Upgrading.{EndsUpgrade, MetNone}
use Rattle.archive_meaning.specs.declared.TheConstants.{MAX_ROWS}
use Rattle.archive_open.specs.Shown.{RefusedAt}
use Rattle.command_refusals.specs.Reading.{EndsReading, IsComplete, OverJournal}
use Rattle.command_refusals.specs.declared.outcome.ReadRefusal.{ReadRefusal}
use Rattle.command_refusals.specs.declared.outcome.ReadRefusal.TheVariants.{Damaged}
use Rattle.command_answers.specs.Listing.{PrintsDirectory}
use Rattle.check_meaning.specs.Checked.{DamagedAt}
use Rattle.command_answers.specs.Counted.{PrintsCounts}
use Rattle.log_seams.specs.Outside.{CountsOf, Rose}
use Rattle.archive_meaning.specs.Held.{content_of}
use Rattle.command_refusals.specs.declared.outcome.FileRefusal.{FileRefusal}
use Rattle.command_refusals.specs.declared.outcome.FileRefusal.TheVariants.{Damaged as FileDamaged, DiskFault as FileDiskFault, NoSuchFile, SinkFault as FileSinkFault}
use Rattle.command_answers.specs.Decoding.{LacksFile, IsCompleteFile, PrintsFile}
use Rattle.search_meaning.specs.Scan.{Asked}
use Rattle.command_answers.specs.Searching.{PrintsFound, SparesBarren}
use Rattle.command_answers.specs.Grouping.{PrintsGroups, grouped_by}
use Rattle.command_words.specs.declared.command.CountKey.{CountKey}
use Rattle.search_meaning.specs.Journal.{OfJournal, asked}
use Rattle.command_answers.specs.Benched.{SumsUpAll, EndsBench, MetNoLimit}
use Rattle.command_words.specs.Asked.{Asked as AskedFor, to_bench, to_check, to_count, to_create, to_decode, to_ingest, to_list, to_merge, to_scan, to_search, to_show, to_upgrade, AreTaken, Asks, HaveGoodValues}
use Rattle.command_answers.specs.Shown.{Shows}
use Rattle.command_refusals.specs.declared.refusal.Refusal.TheVariants.{Usage}
use Rattle.command_answers.specs.Words.{AskSomething, IsUsage}

-- The log of this name was printed, or the printing was refused with a cause. A read of it that failed is told, unless the
-- output failed too: so no line is refused behind it. A write to the output that failed ends the call.
pub record AnswersLog (tells : ℕ → List ℕ → List ℕ → Type 0) (seen : Outside) (name : List ℕ) (status : ℕ) : Type 0 where
  pub answer : Option LogRefusal
  pub ends : EndsWith seen name status (option_map of_log answer)
  pub printed : Printed tells answer (seen.content name) (seen.unread name) seen.out.0 seen.out.1
  pub cause : HasCause seen name answer
  pub reads : answer ≢ Some ReadFault → answer ≢ Some SinkFault → NoneAdded (seen.reads name)
  pub sink : answer ≢ Some SinkFault → Stayed seen.out_faults

-- The messages of a log that a pattern matches were printed, or the pattern is refused.
pub record AnswersScan (pattern file : List ℕ) (seen : Outside) (status : ℕ) : Type 0 where
  pub lone_backslash : (at : ℕ) → IsLoneBackslash pattern at → RefusesPattern seen status at
  pub good : (items : List Item) → IsSearchPattern pattern items → AnswersLog (Finds file items) seen file status

-- An archive was made, or the making was refused with a cause. Nothing was printed.
pub record AnswersCreate (header : Header) (seen : Outside) (old new : DiskState) (status : ℕ) : Type 0 where
  pub answer : Result Unit CreateRefusal
  pub ends : EndsWith seen [] status (option_map of_create (answer_of answer))
  pub leaves : CreateLeaves answer header old new
  pub nothing : TookNothing seen.out
  pub sink : Stayed seen.out_faults

-- What `ingest` answers, whatever archive is known. Names that are refused by themselves are refused before all else, whatever
-- the disk tells, and nothing is touched. What is said of the disk's bytes, and of the journal that they stand for, holds where
-- they were those of the known archive at the start; where damage is, is told of any bytes.
pub record AnswersIngest (known : Option KnownArchive) (workers rows : ℕ) (names : List (List ℕ)) (seen : Outside)
    (old new : DiskState) (status : ℕ) : Type 0 where
  pub names_first : (refusal : AddRefusal) → RefusesNames names (Some refusal)
      → RefusesAtOnce seen old new status (of_add refusal)
  pub ends : EndsIngest workers rows names seen (over known old old) (over known old new) status
  pub damaged : IfRefused (TellsDamage old new) ends

-- What `ingest --watch` answers for a pattern that is one, whatever archive is known, as `ingest` does. There may be no memory for
-- the pattern, which is read before the names are looked at.
pub record AnswersGoodWatch (known : Option KnownArchive) (workers rows : ℕ) (items : List Item) (names : List (List ℕ))
    (seen : Outside) (old new : DiskState) (status : ℕ) : Type 0 where
  pub names_first : (refusal : AddRefusal) → RefusesNames names (Some refusal)
      → RefusesAtOnce seen old new status (of_add refusal) ⊎ LacksMemoryAtOnce seen old new status
  pub ends : EndsWatch workers rows items names seen (over known old old) (over known old new) status
  pub damaged : IfRefused (TellsDamage old new) ends

-- What `ingest --watch` answers: the pattern is refused, or the files are taken in.
pub record AnswersWatch (known : Option KnownArchive) (workers rows : ℕ) (pattern : List ℕ) (names : List (List ℕ))
    (seen : Outside) (old new : DiskState) (status : ℕ) : Type 0 where
  pub lone_backslash : (at : ℕ) → IsLoneBackslash pattern at → RefusesPatternAtOnce seen old new status at
  pub good : (items : List Item) → IsSearchPattern pattern items
      → AnswersGoodWatch known workers rows items names seen old new status

-- The files of the archive were printed, or the command was refused with a cause.
pub record AnswersFiles (seen : Outside) (old new : DiskState) (status : ℕ) : Type 0 where
  pub answer : Result Unit ReadRefusal
  pub ends : EndsReading seen old new status answer
  pub prints : PrintsDirectory answer old.seen seen.out.0 seen.out.1
  pub damaged : (at : ℕ) → answer ≡ Err (Damaged at) → RefusedAt at old.seen
  pub complete : IsComplete seen old new answer

-- The counts of the archive were printed, or the command was refused with a cause.
pub record AnswersCheck (seen : Outside) (old new : DiskState) (status : ℕ) : Type 0 where
  pub answer : Result Unit ReadRefusal
  pub ends : EndsReading seen old new status answer
  pub prints : PrintsCounts answer old.seen seen.out.0 seen.out.1
  pub damaged : (at : ℕ) → answer ≡ Err (Damaged at) → IfSome old.seen (DamagedAt at)
  pub complete : IsComplete seen old new answer

-- The bytes of a file were printed, or the command was refused with a cause. Where the archive could be opened, it is refused
-- for want of the file exactly where there is none of that number.
pub record AnswersDecode (number : ℕ) (seen : Outside) (old new : DiskState) (status : ℕ) : Type 0 where
  pub answer : Result Unit FileRefusal
  -- how it ended
  pub ends : EndsWith seen [] status (option_map of_file (answer_of answer))
  pub keeps : KeepsBytes old new
  pub prints : PrintsFile answer number old.seen seen.out.0 seen.out.1
  -- causes
  pub damaged : (at : ℕ) → answer ≡ Err (FileDamaged at) → RefusedAt at old.seen
  pub lacks : (told count : ℕ) → answer ≡ Err (NoSuchFile told count) → LacksFile number told count old.seen seen.out.0 seen.out.1
  pub there : (answer ≡ Ok tt) ⊎ (answer ≡ Err FileSinkFault) → OverJournal old.seen (λ held. number < length (content_of held))
  pub disk : CountsOf FileDiskFault old.faults new.faults answer
  pub sink : CountsOf FileSinkFault seen.out_faults.0 seen.out_faults.1 answer
  pub complete : IsCompleteFile number seen old new answer

-- The messages that are found were printed, or the command was refused with a cause.
pub record AnswersSearch (q : Asked) (stats : Bool) (seen : Outside) (old new : DiskState) (status : ℕ) : Type 0 where
  pub answer : Result Unit ReadRefusal
  pub ends : EndsReading seen old new status answer
  pub prints : PrintsFound (is_ok answer) q stats old.seen seen.out.0 seen.out.1
  pub reads : SparesBarren q old.seen old.ranges new.ranges
  pub damaged : (at : ℕ) → answer ≡ Err (Damaged at) → RefusedAt at old.seen
  pub complete : IsComplete seen old new answer

-- The messages of the archive that a pattern matches in a range were printed, or the pattern is refused.
pub record AnswersPattern (from to : Option ℤ) (stats : Bool) (pattern : List ℕ) (seen : Outside) (old new : DiskState)
    (status : ℕ) : Type 0 where
  pub lone_backslash : (at : ℕ) → IsLoneBackslash pattern at → RefusesPatternAtOnce seen old new status at
  pub good : (items : List Item) → IsSearchPattern pattern items
      → AnswersSearch (asked items (record { from = from; to = to })) stats seen old new status

-- The groups of the messages that are found were printed, or the command was refused with a cause.
pub record AnswersGroups (by : CountKey) (q : Asked) (stats : Bool) (seen : Outside) (old new : DiskState) (status : ℕ)
    : Type 0 where
  pub answer : Result Unit ReadRefusal
  pub ends : EndsReading seen old new status answer
  pub prints : PrintsGroups (is_ok answer) q (grouped_by by) stats old.seen seen.out.0 seen.out.1
  pub reads : SparesBarren q old.seen old.ranges new.ranges
  pub damaged : (at : ℕ) → answer ≡ Err (Damaged at) → RefusedAt at old.seen
  pub complete : IsComplete seen old new answer

-- The groups of the messages of the archive that a pattern matches in a range were printed, or the pattern is refused.
pub record AnswersCount (by : CountKey) (from to : Option ℤ) (stats : Bool) (pattern : List ℕ) (seen : Outside)
    (old new : DiskState) (status : ℕ) : Type 0 where
  pub lone_backslash : (at : ℕ) → IsLoneBackslash pattern at → RefusesPatternAtOnce seen old new status at
  pub good : (items : List Item) → IsSearchPattern pattern items
      → AnswersGroups by (asked items (record { from = from; to = to })) stats seen old new status

-- What `merge` answers, whatever archive is known. What is said of the disk's bytes, and of the journal that they stand for, holds
-- where they were those of the known archive at the start; where damage is, and which archive comes first, is told of any bytes. A
-- second archive that may come behind is merged, or memory ended, where no call of the disks and no write to the output failed, and
-- no limit was met.
pub record AnswersMerge (known : Option KnownArchive) (seen : Outside) (old new second second_new : DiskState) (status : ℕ)
    : Type 0 where
  pub merge : Merge
  pub first : ℕ
  pub merges : Merges merge first (over known old old) (over known old new) second second_new
  pub in_order : TellsInOrder merge old new
  pub printed : PrintsMerge merge first seen status
  pub complete : FromArchive (over known old old) (λ h before bytes stood. OfJournal second.seen (λ g others other.
      MayCome h (length stood.legal.held.names) g other → ¬ Rose old.faults new.faults → ¬ Rose second.faults second_new.faults
      → ¬ RoseIn seen.out_faults → MeetsNoLimit merge.refusal → (status ≡ 0) ⊎ TellsNoMemory status))

-- What `upgrade` answers, whose segments have so many rows at most. The archive is only read. One of an earlier version than the
-- last is upgraded, or memory ended, where the second disk was empty, no call of the disks and no write to the output failed, and
-- no limit was met.
pub record AnswersUpgrade (rows : ℕ) (seen : Outside) (old new second second_new : DiskState) (status : ℕ) : Type 0 where
  pub ends : EndsUpgrade rows seen old new second second_new status
  pub keeps : KeepsBytes old new
  pub complete : (bytes : List ℕ) (h : Header) (es : List JournalEntry) → old.seen ≡ Some bytes → StandsFor bytes h es
      → h.version < LAST_VERSION → second.seen ≡ Some [] → ¬ Rose old.faults new.faults
      → ¬ Rose second.faults second_new.faults → ¬ RoseIn seen.out_faults → MetNone ends
      → (status ≡ 0) ⊎ TellsNoMemory status

-- What `bench` answers. On an empty disk, where no call of the disk and no write to the output failed and no limit was met, all
-- is summed up, or memory ended.
pub record AnswersBench (number lines workers : ℕ) (seen : Outside) (old new : DiskState) (status : ℕ) : Type 0 where
  pub ends : EndsBench number lines workers seen old new status
  pub complete : old.seen ≡ Some [] → ¬ Rose old.faults new.faults → ¬ RoseIn seen.out_faults → MetNoLimit ends
      → SumsUpAll lines seen new status

-- What a command answers, whatever archive is known. The last two disks are the second one, before and after.
abbrev pub AnswersAsked : Option KnownArchive → AskedFor → Outside → DiskState → DiskState → DiskState → DiskState → ℕ → Type 0
AnswersAsked known (to_show file) seen old new second second_new status = AnswersLog (λ _ message text. Shows message text) seen file status
AnswersAsked known (to_scan pattern file) seen old new second second_new status = AnswersScan pattern file seen status
AnswersAsked known (to_create header) seen old new second second_new status = AnswersCreate header seen old new status
AnswersAsked known (to_ingest workers segment None files) seen old new second second_new status =
    AnswersIngest known workers segment files seen old new status
AnswersAsked known (to_ingest workers segment (Some pattern) files) seen old new second second_new status =
    AnswersWatch known workers segment pattern files seen old new status
AnswersAsked known to_list seen old new second second_new status = AnswersFiles seen old new status
AnswersAsked known to_check seen old new second second_new status = AnswersCheck seen old new status
AnswersAsked known (to_decode number) seen old new second second_new status = AnswersDecode number seen old new status
AnswersAsked known (to_search from to stats workers pattern) seen old new second second_new status =
    AnswersPattern from to stats pattern seen old new status
AnswersAsked known (to_count by from to stats workers pattern) seen old new second second_new status = AnswersCount by from to stats pattern seen old new status
AnswersAsked known to_merge seen old new second second_new status =
    AnswersMerge known seen old new second second_new status
AnswersAsked known to_upgrade seen old new second second_new status =
    AnswersUpgrade MAX_ROWS seen old new second second_new status
AnswersAsked known (to_bench number lines workers) seen old new second second_new status = AnswersBench number lines workers seen old new status

-- What words answer that were read. Those that `clap` takes, and whose values are good, ask for something: so a usage error
-- comes only where `clap` refuses them for another cause than memory, or where a value is not good.
pub record AnswersWords (known : Option KnownArchive) (words : List (List ℕ)) (seen : Outside)
    (old new second second_new : DiskState) (status : ℕ) : Type 0 where
  pub usage : IsUsage words → RefusesAtOnce seen old new status Usage
  pub asked_for : (a : AskedFor) → Asks words a → AnswersAsked known a seen old new second second_new status
  pub taken : AreTaken words → HaveGoodValues words → AskSomething words

-- What the program answers: there was no memory to read the words and nothing was done, or they were read.
abbrev pub Answers : Option KnownArchive → List (List ℕ) → Outside → DiskState → DiskState → DiskState → DiskState → ℕ → Type 0
Answers known words seen old new second second_new status =
    LacksMemoryAtOnce seen old new status ⊎ AnswersWords known words seen old new second second_new status
