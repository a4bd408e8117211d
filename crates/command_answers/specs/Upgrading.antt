-- What `upgrade` leaves and prints: the files of an archive become those of a new archive of the last version on a second disk.
use Rattle.std.proofs.Common.{inl, inr}
use Rattle.std.specs.Prelude.{◌≡◌, ◌≢◌, ◌⊎◌, ◌+◌, ◌<◌, ◌≤◌, ℕ, Bool, true, false, List, [], ◌∷◌, ◌++◌, length, map, take, All, Option, Some, None, IfSome, slice_get}
use mathlib.Core.List.{IsPrefix}
use Rattle.log_seams.specs.Disk.{DiskState, KeepsBytes}
use Rattle.log_seams.specs.Outside.{Rose}
use Rattle.record_format.specs.Header.{header_bytes}
use Rattle.record_format.specs.declared.header.Header.{Header}
use Rattle.record_format.specs.declared.header.TheConstants.{LAST_VERSION}
use Rattle.disk_journal.specs.Created.{HasBytes}
use Rattle.disk_journal.specs.declared.record.TheConstants.{CLOSED_GATE}
use Rattle.row_codec.specs.declared.namer.Which.{Which}
use Rattle.archive_meaning.specs.declared.TheConstants.{MAX_NAMES}
use Rattle.archive_meaning.specs.declared.entry.JournalEntry.{JournalEntry}
use Rattle.archive_meaning.specs.declared.entry.JournalEntry.TheVariants.{Files, Types, Words, Segment}
use Rattle.archive_meaning.specs.Held.{File, content_of, file_text}
use Rattle.archive_meaning.specs.Spelled.{end_of}
use Rattle.archive_meaning.specs.Stands.{StandsFor}
use Rattle.archive_open.specs.Shown.{RefusedAt, counted}
use Rattle.ingest_meaning.specs.Room.{files_size}
use Rattle.message_reader.specs.Versions.{MessagesOf}
use Rattle.search_meaning.specs.Journal.{OfJournal}
use Rattle.sink_pieces.specs.Output.{GrewByFront}
use Rattle.file_lines.specs.Directory.{directory_from, line_of_file}
use Rattle.command_refusals.specs.Outside.{Outside}
use Rattle.command_refusals.specs.Ending.{EndsWith, EndsWithoutMemory, EndsWithoutOutput, RoseIn, Stayed, TookNothing}
use Rattle.command_refusals.specs.LogLimits.{most_messages}
use Rattle.command_refusals.specs.Outcome.{of_upgrade}
use Rattle.command_refusals.specs.declared.outcome.PartCause.{PartCause}
use Rattle.command_refusals.specs.declared.outcome.PartCause.TheVariants.{OpenFault, ReadFault, LineTooLong, TooManyLines, Full}
use Rattle.command_refusals.specs.declared.outcome.UpgradeRefusal.{UpgradeRefusal}
use Rattle.command_answers.specs.Benched.{at_moment}
use Rattle.command_answers.specs.Ingested.{DidNotFit, FileOutcome, FitIn, HasMoreThan, IsCutInto, IsFullByGiven, IsFullInTurn, IsOfNew, LeavesJournal, Logs, OfStopped, PrintsCame, WasCutShort, line_of_came, names_in}

-- ---- the content

-- What came of a file of the archive: it is told by its name and by its text, and a part stays one.
pub record IsOutcomeOf (old : File) (c : FileOutcome) : Type 0 where
  pub name : c.name ≡ old.name
  pub log : c.log ≡ Some (file_text old)
  pub part : old.whole ≡ false → c.whole ≡ false

-- The new file has the old one's name and the first messages of its text, as many as are told. Where nothing was refused of it it
-- has all, and is marked as the old one.
pub record IsUpgradeOf (old : File) (c : FileOutcome) (f : File) : Type 0 where
  pub name : f.name ≡ old.name
  pub messages : length f.messages ≡ c.messages
  pub whole : f.whole ≡ c.whole
  pub front : (messages : List (List ℕ)) (ended : Bool) → MessagesOf LAST_VERSION (file_text old) messages ended
      → IsPrefix f.messages messages
  pub all : c.refusal ≡ None → ((ended : Bool) × MessagesOf LAST_VERSION (file_text old) f.messages ended)
      × (f.whole ≡ old.whole) × (old.whole ≡ true → f.ended ≡ old.ended)

-- so it is of all files, in order
abbrev pub AreUpgrades : List File → List FileOutcome → List File → Type 0
AreUpgrades [] [] [] = Unit {0}
AreUpgrades (old ∷ olds) (c ∷ came) (f ∷ fs) = IsOutcomeOf old c × IsUpgradeOf old c f × AreUpgrades olds came fs
AreUpgrades _ _ _ = ⊥

-- ---- the new journal

-- the new archive's header: the limits of the old one
abbrev pub header_for : Header → Header
header_for h = record h { version = LAST_VERSION }

-- where the bytes are told, they stand for a journal of an earlier version than the last
abbrev pub AreOlder : Option (List ℕ) → Type 0
AreOlder told = OfJournal told (λ h es held. h.version < LAST_VERSION)

-- so it is, and this is the header of what is made of it
abbrev pub IsHeaderFor : Option (List ℕ) → Header → Type 0
IsHeaderFor told header = OfJournal told (λ h es held. (h.version < LAST_VERSION) × (header ≡ header_for h))

-- the entries are records of names, each with one at least and as many as a record may have; together they have these
abbrev pub AreNamesOf : List JournalEntry → List (List ℕ) → Type 0
AreNamesOf [] names = names ≡ []
AreNamesOf (Files some ∷ es) names = (1 ≤ length some) × (length some ≤ MAX_NAMES)
    × ((rest : List (List ℕ)) × (names ≡ some ++ rest) × AreNamesOf es rest)
AreNamesOf (Types number texts ∷ es) names = ⊥
AreNamesOf (Words number texts ∷ es) names = ⊥
AreNamesOf (Segment s ∷ es) names = ⊥

-- Where the second disk tells its bytes, it had none, and an empty archive was made of it: from a moment of the call on, at which
-- a crash left that archive, this holds of the disk.
abbrev pub FromNew : Header → DiskState → DiskState → (DiskState → Type 0) → Type 0
FromNew header old new P =
    IfSome old.seen (λ was. (was ≡ [])
    × ((t : ℕ) × ((old.clock ≤ t) × new.since t (header_bytes header ++ CLOSED_GATE ∷ []) × P (at_moment t old))))

-- what is told of the reading of texts, where this ended it
abbrev pub texts_read : Option UpgradeRefusal → Logs
texts_read None = record { opens = λ name. (0, 0); reads = λ name. (0, 0); unread = λ name. None }
texts_read (Some stop) = record { opens = λ name. (0, 0); reads = λ name. (0, 1); unread = λ name. None }

-- what a full dictionary and a full archive rest on, in a journal with these names
abbrev pub HasLimitCause : ℕ → Option UpgradeRefusal → Header → List JournalEntry → List FileOutcome → DiskState → FileOutcome
    → Option PartCause → Type 0
HasLimitCause rows stop h named came new c (Some (Full book count)) = IsFullByGiven came h named c book count
HasLimitCause rows stop h named came new c (Some (PartCause.ArchiveFull end need)) =
    DidNotFit (texts_read stop) rows 0 came h named new c end need
HasLimitCause rows stop h named came new c _ = Unit {0}

-- The new journal has the names, and then what came of each file, in segments of at most so many rows. Its files are those of the
-- archive, as they are told. A dictionary is full by the files up to the one that it stopped, and what was taken in fits.
pub record MakesNew (rows : ℕ) (stop : Option UpgradeRefusal) (archive : Option (List ℕ)) (h : Header) (came : List FileOutcome)
    (old new : DiskState) : Type 0 where
  pub named : List JournalEntry
  pub names : AreNamesOf named (names_in came)
  pub added : List JournalEntry
  pub each : All (IsOfNew LAST_VERSION came 0) added
  pub leaves : LeavesJournal h [] (named ++ added) old new
  pub files : List File
  pub content_is : (image : List ℕ) (stands : StandsFor image h (named ++ added)) → content_of stands.legal.held ≡ files
  pub told : map line_of_came came ≡ map (λ f. line_of_file (counted f)) files
  pub upgrades : OfJournal archive (λ g es held. AreUpgrades (content_of held) came files)
  pub cuts : (i : ℕ) (f : File) → slice_get files i ≡ Some f → IsCutInto rows i f added
  pub limits : All (λ c. HasLimitCause rows stop h named came new c c.refusal) came
  pub in_turn : OfStopped (IsFullInTurn rows h named) came
  pub fits : (book : Which) → FitIn h named came book

-- ---- causes

-- what a refusal of a file rests on beside the limits; want of memory is free
abbrev pub HasTextCause : DiskState → DiskState → DiskState → Option UpgradeRefusal → FileOutcome → Option PartCause → Type 0
HasTextCause old second second_new stop c (Some OpenFault) = ⊥
HasTextCause old second second_new stop c (Some ReadFault) = (stop ≢ None) × IfSome c.log (WasCutShort LAST_VERSION c)
HasTextCause old second second_new stop c (Some (LineTooLong number)) = OfJournal old.seen (λ h es held. ⊥)
HasTextCause old second second_new stop c (Some TooManyLines) =
    (c.messages ≡ most_messages) × HasMoreThan most_messages LAST_VERSION c.log
HasTextCause old second second_new stop c (Some PartCause.DiskFault) = Rose second.faults second_new.faults
HasTextCause old second second_new stop c _ = Unit {0}

-- A refusal of a file has its cause, and the file is a part then.
pub record CameOfText (old second second_new : DiskState) (stop : Option UpgradeRefusal) (c : FileOutcome) : Type 0 where
  pub cause : HasTextCause old second second_new stop c c.refusal
  pub part : c.refusal ≢ None → c.whole ≡ false

-- why the texts of the archive could not be had to their end
abbrev pub EndsTexts : DiskState → DiskState → UpgradeRefusal → Type 0
EndsTexts old new UpgradeRefusal.DiskFault = Rose old.faults new.faults
EndsTexts old new (UpgradeRefusal.Damaged at) = RefusedAt at old.seen
EndsTexts old new UpgradeRefusal.OutOfMemory = Unit {0}
EndsTexts old new _ = ⊥

-- Why no new archive was made: the archive could not be opened, or has the last version, and the second disk was not touched; or
-- this one has bytes, and keeps them; or one of its calls failed.
abbrev pub MadeNone : DiskState → DiskState → DiskState → DiskState → UpgradeRefusal → Type 0
MadeNone old new second second_new UpgradeRefusal.DiskFault = Rose old.faults new.faults × KeepsBytes second second_new
MadeNone old new second second_new (UpgradeRefusal.Damaged at) = RefusedAt at old.seen × KeepsBytes second second_new
MadeNone old new second second_new UpgradeRefusal.OutOfMemory = KeepsBytes second second_new
MadeNone old new second second_new (UpgradeRefusal.AlreadyNewest version) =
    (version ≡ LAST_VERSION) × OfJournal old.seen (λ h es held. h.version ≡ LAST_VERSION) × KeepsBytes second second_new
MadeNone old new second second_new (UpgradeRefusal.NotEmpty len) = AreOlder old.seen × HasBytes len second second_new
MadeNone old new second second_new UpgradeRefusal.SecondFault = AreOlder old.seen × Rose second.faults second_new.faults
MadeNone old new second second_new _ = ⊥

-- Why not all files were named.
abbrev pub NamedNotAll : DiskState → DiskState → UpgradeRefusal → Type 0
NamedNotAll second second_new UpgradeRefusal.SecondFault = Rose second.faults second_new.faults
NamedNotAll second second_new (UpgradeRefusal.ArchiveFull end need) = Unit {0}
NamedNotAll second second_new UpgradeRefusal.OutOfMemory = Unit {0}
NamedNotAll second second_new _ = ⊥

-- The next record of names, of those that are left, goes past the limit of length. Where the bytes are told, the journal ends
-- behind the names that it has.
abbrev pub LacksRoomFor : Option (List ℕ) → Header → List JournalEntry → List (List ℕ) → UpgradeRefusal → Type 0
LacksRoomFor told h named left (UpgradeRefusal.ArchiveFull end need) =
    IfSome told (λ _. end ≡ end_of h named) × (need ≡ files_size (take MAX_NAMES left)) × (h.length_limit < end + need)
LacksRoomFor told h named left _ = Unit {0}

-- The journal has the first ones of these names, in their order, and others are left.
pub record NamesSome (told : Option (List ℕ)) (h : Header) (named : List JournalEntry) (names : List (List ℕ))
    (refusal : UpgradeRefusal) : Type 0 where
  pub done : List (List ℕ)
  pub left : List (List ℕ)
  pub splits : names ≡ done ++ left
  pub some : left ≢ []
  pub are : AreNamesOf named done
  pub room : LacksRoomFor told h named left refusal

-- ---- the answer

-- No new archive was made.
pub record RefusesMakingNew (seen : Outside) (old new second second_new : DiskState) (status : ℕ) : Type 0 where
  pub refusal : UpgradeRefusal
  pub ends : EndsWith seen [] status (Some (of_upgrade refusal))
  pub nothing : TookNothing seen.out
  pub sink : Stayed seen.out_faults
  pub cause : MadeNone old new second second_new refusal

-- The new archive was made, and not all of its files were named. It has the names of the first ones.
pub record RefusesNewNames (seen : Outside) (old second second_new : DiskState) (status : ℕ) : Type 0 where
  pub header : Header
  pub made : IsHeaderFor old.seen header
  pub refusal : UpgradeRefusal
  pub ends : EndsWith seen [] status (Some (of_upgrade refusal))
  pub nothing : TookNothing seen.out
  pub sink : Stayed seen.out_faults
  pub cause : NamedNotAll second second_new refusal
  pub named : List JournalEntry
  pub names : OfJournal old.seen (λ h es held. NamesSome second.seen header named (map (λ f. f.name) (content_of held)) refusal)
  pub disk : FromNew header second second_new (λ from. LeavesJournal header [] named from second_new)

-- What is printed: each new file as `ingest` prints it; or the archive ended it, which alone is told on the error output. Where
-- the output failed, or there was no memory for its lines, this alone is told.
abbrev pub PrintsUpgrade : Option UpgradeRefusal → List FileOutcome → Outside → ℕ → Type 0
PrintsUpgrade None came seen status = PrintsCame came 0 seen status
PrintsUpgrade (Some stop) came seen status =
    GrewByFront seen.out.0 seen.out.1 (directory_from 0 (map line_of_came came))
    × ((EndsWith seen [] status (Some (of_upgrade stop)) × Stayed seen.out_faults)
    ⊎ (EndsWithoutOutput seen status × RoseIn seen.out_faults)
    ⊎ (EndsWithoutMemory seen status × Stayed seen.out_faults))

-- The files were named and taken in, in segments of at most so many rows, each with its cause; and why the texts could not be had
-- to their end.
pub record Upgrades (rows : ℕ) (seen : Outside) (old new second second_new : DiskState) (status : ℕ) : Type 0 where
  pub header : Header
  pub made : IsHeaderFor old.seen header
  pub came : List FileOutcome
  pub stop : Option UpgradeRefusal
  pub stopped : IfSome stop (EndsTexts old new)
  pub each : All (CameOfText old second second_new stop) came
  pub disk : FromNew header second second_new (λ from. MakesNew rows stop old.seen header came from second_new)
  pub printed : PrintsUpgrade stop came seen status

abbrev pub EndsUpgrade : ℕ → Outside → DiskState → DiskState → DiskState → DiskState → ℕ → Type 0
EndsUpgrade rows seen old new second second_new status =
    RefusesMakingNew seen old new second second_new status ⊎ RefusesNewNames seen old second second_new status
    ⊎ Upgrades rows seen old new second second_new status

-- No limit was met at a file: of its messages, of a dictionary, of the archive.
abbrev pub MeetsNone : Option PartCause → Type 0
MeetsNone (Some TooManyLines) = ⊥
MeetsNone (Some (Full book count)) = ⊥
MeetsNone (Some (PartCause.ArchiveFull end need)) = ⊥
MeetsNone _ = Unit {0}

-- nor at the names
abbrev pub NamesMetNone : UpgradeRefusal → Type 0
NamesMetNone (UpgradeRefusal.ArchiveFull end need) = ⊥
NamesMetNone _ = Unit {0}

-- so it was of all that the new archive was asked to take
abbrev pub MetNone : {rows : ℕ} {seen : Outside} {old new second second_new : DiskState} {status : ℕ}
    → EndsUpgrade rows seen old new second second_new status → Type 0
MetNone (inl making) = Unit {0}
MetNone (inr (inl refused)) = NamesMetNone refused.refusal
MetNone (inr (inr done)) = All (λ c. MeetsNone c.refusal) done.came
