-- What `merge` answers: the files of a second archive come behind those of the archive, and the second disk is only read.
use Rattle.std.specs.Prelude.{◌≡◌, ◌≢◌, ◌⊎◌, ◌+◌, ◌<◌, ◌≤◌, ℕ, zero, suc, All, false, List, [], ◌∷◌, ◌++◌, length, map, take, drop, min, Option, Some, None, IfSome, slice_get}
use Rattle.std.specs.List.{Contains, filter_map, flat_map}
use mathlib.Core.List.{IsPrefix}
use Rattle.log_seams.specs.Disk.{DiskState, KeepsBytes}
use Rattle.log_seams.specs.Outside.{Rose}
use Rattle.plain_list.specs.Texts.{IsNew}
use Rattle.record_format.specs.declared.header.Header.{Header}
use Rattle.row_codec.specs.Means.{AreCanonical}
use Rattle.row_codec.specs.Numbers.{numbers_of_row}
use Rattle.row_codec.specs.declared.namer.Which.{Which}
use Rattle.row_codec.specs.declared.namer.Which.TheVariants.{Types, Words}
use Rattle.archive_meaning.specs.declared.entry.SegmentEntry.{SegmentEntry}
use Rattle.archive_meaning.specs.declared.entry.JournalEntry.{JournalEntry}
use Rattle.archive_meaning.specs.Held.{File, Held, content_of}
use Rattle.archive_meaning.specs.Stands.{StandsFor}
use Rattle.archive_meaning.specs.Spelled.{end_of, words_named}
use Rattle.archive_open.specs.Shown.{IsLastGate, RefusedAt, StandsForNone, counted}
use Rattle.ingest_meaning.specs.Room.{files_size, needed_behind}
use Rattle.ingest_meaning.specs.Parts.{in_file}
use Rattle.ingest_meaning.specs.Dictionaries.{HasTextsBehind, IsFullBy, book_texts, header_limits, limit_of}
use Rattle.search_meaning.specs.Journal.{OfJournal}
use Rattle.sink_pieces.specs.Output.{Grew, GrewByFront}
use Rattle.file_lines.specs.Directory.{FileLine, directory_from, line_of_file}
use Rattle.command_refusals.specs.Outside.{Outside}
use Rattle.command_refusals.specs.Ending.{EndsWithoutMemory, EndsWithoutOutput, RoseIn, SaysIn, Stayed}
use Rattle.command_refusals.specs.Reading.{OverJournal}
use Rattle.command_refusals.specs.Outcome.{merge_line, merge_status}
use Rattle.command_refusals.specs.declared.outcome.AddRefusal.TheVariants.{TooManyFiles}
use Rattle.command_refusals.specs.declared.outcome.MergeRefusal.{MergeRefusal}
use Rattle.command_answers.specs.Ingested.{FromArchive, LeavesJournal}
use Rattle.command_answers.specs.Names.{RefusesMore}
use Rattle.command_answers.specs.Taken.{IsDamagedAt}

-- What came of a merge: the new files as they are told, in order; why not all of the second archive was merged; and the name of
-- the file that stopped it, where one did.
pub record Merge : Type 0 where
  pub files : List FileLine
  pub refusal : Option MergeRefusal
  pub name : List ℕ

-- ---- the content

-- a new file that is not done has the name of one of the second archive and first messages of it, and is a part
pub record IsFrontOf (g f : File) : Type 0 where
  pub name : f.name ≡ g.name
  pub messages : IsPrefix f.messages g.messages
  pub part : (f.whole ≡ false) × (f.ended ≡ false)

-- a new file that has nothing but the name of one of the second archive
abbrev pub name_alone : File → File
name_alone g = record { name = g.name; messages = []; whole = false; ended = false }

-- The new files are the first ones of the second archive's, in their order. So many are done, and are as they are there; the next
-- one is not; and those behind it have names alone.
abbrev pub AreFrontsOf : ℕ → List File → List File → Type 0
AreFrontsOf done gs [] = Unit {0}
AreFrontsOf done [] (f ∷ fs) = ⊥
AreFrontsOf zero (g ∷ gs) (f ∷ fs) = IsFrontOf g f × (fs ≡ map name_alone (take (length fs) gs))
AreFrontsOf (suc done) (g ∷ gs) (f ∷ fs) = (f ≡ g) × AreFrontsOf done gs fs

-- the segment is of this file, and has as many rows as another one, the same place in its file and the same marks
pub record IsSegmentAs (number : ℕ) (was s : SegmentEntry) : Type 0 where
  pub file : s.file ≡ number
  pub first : s.first ≡ was.first
  pub rows : length s.rows ≡ length was.rows
  pub marks : (s.last ≡ was.last) × (s.ended ≡ was.ended)

-- so are these segments, by the first ones of others
abbrev pub AreSegmentsAs : ℕ → List SegmentEntry → List SegmentEntry → Type 0
AreSegmentsAs number were [] = Unit {0}
AreSegmentsAs number [] (s ∷ ss) = ⊥
AreSegmentsAs number (was ∷ were) (s ∷ ss) = IsSegmentAs number was s × AreSegmentsAs number were ss

-- ---- why not all was merged, by both journals

-- the texts of a dictionary that are held
abbrev pub texts_held : Which → Held → List (List ℕ)
texts_held Types held = held.types
texts_held Words held = held.words

-- the numbers of a segment's rows: those of their log types, or those of their words
abbrev pub numbers_in : Which → Held → SegmentEntry → List ℕ
numbers_in Types other s = map (λ row. row.log_type) s.rows
numbers_in Words other s = flat_map (numbers_of_row other.types) s.rows

-- A row of one of the segments that were reached needs the text: it has its number. The segment is of a file up to the one behind
-- so many that are done, and has its place in it not behind the messages that are told.
abbrev pub IsNeeded : Merge → ℕ → List JournalEntry → Held → Which → List ℕ → Type 0
IsNeeded m done others other book text = (file : ℕ) × (s : SegmentEntry) × Contains (filter_map (in_file file) others) s
    × (file ≤ done) × (line : FileLine) × (slice_get m.files file ≡ Some line) × (s.first ≤ line.messages)
    × (number : ℕ) × Contains (numbers_in book other s) number × (slice_get (texts_held book other) number ≡ Some text)

-- A book may have so many texts, and there are as many of the journal and of those that are needed; and one more of the second
-- archive, which is none of the journal.
abbrev pub IsFullOfBoth : (Which → List ℕ → Type 0) → Header → List JournalEntry → Held → Which → ℕ → Type 0
IsFullOfBoth needs h before other book count = (count ≡ limit_of (header_limits h) book)
    × IsFullBy (λ text. Contains (book_texts book before) text ⊎ needs book text)
    (λ text. Contains (texts_held book other) text × IsNew (book_texts book before) text) count

-- The archive ended behind some entries, and goes past its limit of length with the record of a segment and those of texts that
-- are needed and these entries do not have. It is this segment of the second archive as one of a file with this number: by these
-- texts its rows are the encodings of the same messages.
pub record LacksRoom (needs_text : Which → List ℕ → Type 0) (h : Header) (before es : List JournalEntry) (other : Held)
    (number : ℕ) (next : SegmentEntry) (end need : ℕ) : Type 0 where
  pub front : List JournalEntry
  pub begins : IsPrefix before front × IsPrefix front es
  pub ends : end ≡ end_of h front
  pub past : h.length_limit < end + need
  pub texts : Which → List (List ℕ)
  pub are : (book : Which) → HasTextsBehind (needs_text book) (book_texts book front) (texts book)
  pub segment : SegmentEntry
  pub same : IsSegmentAs number next segment
  pub messages : List (List ℕ)
  pub were : AreCanonical h.version next.rows other.types other.words messages
  pub canonical : AreCanonical h.version segment.rows (texts Types) (texts Words) messages
  pub needs : need ≡ min
      (needed_behind segment (words_named (texts Types) segment.rows) front (texts Types) (texts Words)) 18446744073709551615

-- The file behind so many that are done stopped the merge: it is told with this name, and of its segments in the second archive
-- this one is next, behind as many messages as are told.
pub record IsStopped (others : List JournalEntry) (m : Merge) (done : ℕ) : Type 0 where
  pub line : FileLine
  pub at : slice_get m.files done ≡ Some line
  pub name : line.name ≡ m.name
  pub next : SegmentEntry
  pub there : Contains (filter_map (in_file done) others) next
  pub behind : next.first ≡ line.messages

-- the second archive may come behind one with so many files: both are of one version, and their files are not too many
pub record MayCome (h : Header) (held : ℕ) (g : Header) (other : Held) : Type 0 where
  pub version_is : g.version ≡ h.version
  pub few : RefusesMore held (length other.names) None

-- What a refusal rests on, where the archive was a journal with the entries `before` and has the entries `es`, and the second
-- disk's bytes stand for one with the entries `others` that holds `other`; so many of its files are done. Want of memory is free.
-- That archives are of two versions comes first, and then that they have too many files: all other causes are those of a second
-- archive that may come behind.
abbrev pub HasJournalCause : Header → List JournalEntry → List JournalEntry → ℕ → Header → List JournalEntry → Held → Merge → ℕ
    → MergeRefusal → Type 0
HasJournalCause h before es held g others other m done (MergeRefusal.VersionDiffers first second) =
    (first ≡ h.version) × (second ≡ g.version) × (first ≢ second)
HasJournalCause h before es held g others other m done (MergeRefusal.TooManyFiles told more) =
    (g.version ≡ h.version) × (told ≡ held) × (more ≡ length other.names)
    × RefusesMore told more (Some (TooManyFiles told more))
HasJournalCause h before es held g others other m done (MergeRefusal.ArchiveFull end need) =
    MayCome h held g other × (end ≡ end_of h es)
    × (need ≡ files_size (take 512 (drop (length m.files) other.names))) × (h.length_limit < end + need)
HasJournalCause h before es held g others other m done (MergeRefusal.Full book count) =
    MayCome h held g other × IsStopped others m done × IsFullOfBoth (IsNeeded m done others other) h before other book count
HasJournalCause h before es held g others other m done (MergeRefusal.SegmentFull end need) =
    MayCome h held g other × ((stopped : IsStopped others m done)
    × LacksRoom (IsNeeded m done others other) h before es other (held + done) stopped.next end need)
HasJournalCause h before es held g others other m done _ = Unit {0}

-- And what it rests on by the disks alone.
abbrev pub HasDiskCause : DiskState → DiskState → DiskState → DiskState → MergeRefusal → Type 0
HasDiskCause old new second second_new MergeRefusal.DiskFault =
    Rose old.faults new.faults ⊎ Rose second.faults second_new.faults
HasDiskCause old new second second_new (MergeRefusal.Damaged at) = IfSome old.seen StandsForNone
HasDiskCause old new second second_new (MergeRefusal.SecondDamaged at) = RefusedAt at second.seen
HasDiskCause old new second second_new _ = Unit {0}

-- ---- which archive comes first

-- it is found before anything is written that the second archive may not come behind
abbrev pub MayNotCome : Option MergeRefusal → Type 0
MayNotCome (Some (MergeRefusal.VersionDiffers first second)) = Unit {0}
MayNotCome (Some (MergeRefusal.TooManyFiles told more)) = Unit {0}
MayNotCome _ = ⊥

-- the refusal is of the second archive, or of how it goes with the first
abbrev pub IsOfSecond : Option MergeRefusal → Type 0
IsOfSecond (Some (MergeRefusal.SecondDamaged at)) = Unit {0}
IsOfSecond refusal = MayNotCome refusal

-- for this a merge may end before the archive is open
abbrev pub MayEndOpening : Option MergeRefusal → Type 0
MayEndOpening (Some MergeRefusal.DiskFault) = Unit {0}
MayEndOpening (Some (MergeRefusal.Damaged at)) = Unit {0}
MayEndOpening (Some MergeRefusal.OutOfMemory) = Unit {0}
MayEndOpening _ = ⊥

-- The archive comes before the second one, whatever its bytes are. Damage of it is told at its place, and no file then. But for
-- this, for a disk that failed and for want of memory, it could be opened: a walk past whole records comes to a closed gate.
-- Where a cause of the second one is told, and no file, nothing was written, and no call of the archive's disk failed.
pub record TellsInOrder (m : Merge) (old new : DiskState) : Type 0 where
  pub damaged : (at : ℕ) → m.refusal ≡ Some (MergeRefusal.Damaged at) → IsDamagedAt at old new × (m.files ≡ [])
  pub opened : ¬ MayEndOpening m.refusal → IfSome old.seen (λ bytes. (at : ℕ) × IsLastGate at bytes)
  pub second : IsOfSecond m.refusal → m.files ≡ [] → KeepsBytes old new × (new.faults ≡ old.faults)

-- ---- the answer

-- The journal begins with the old one, and each image since the start stands for a journal between the two. The old files are
-- as they were. Behind them stand the new ones as they are told: so many are done, and are the second archive's, in segments as
-- there; where nothing was refused all are, and it may come behind. Each text that was added is one that a row which was reached
-- needs.
pub record TakesOver {bytes : List ℕ} (second : Option (List ℕ)) (h : Header) (before : List JournalEntry)
    (stood : StandsFor bytes h before) (m : Merge) (old new : DiskState) : Type 0 where
  pub added : List JournalEntry
  pub leaves : LeavesJournal h before (before ++ added) old new
  pub files : List File
  pub content_is : (image : List ℕ) (stands : StandsFor image h (before ++ added))
      → content_of stands.legal.held ≡ content_of stood.legal.held ++ files
  pub told : m.files ≡ map (λ f. line_of_file (counted f)) files
  pub done : ℕ
  pub fronts : OfJournal second (λ g others other. AreFrontsOf done (content_of other) files)
  pub cuts : OfJournal second (λ g others other. (i : ℕ) → i < length files → AreSegmentsAs (length stood.legal.held.names + i)
      (filter_map (in_file i) others) (filter_map (in_file (length stood.legal.held.names + i)) added))
  pub texts : OfJournal second (λ g others other. (book : Which) → All (IsNeeded m done others other book) (book_texts book added))
  pub all : m.refusal ≡ None → OfJournal second (λ g others other.
      (files ≡ content_of other) × MayCome h (length stood.legal.held.names) g other)
  pub cause : IfSome m.refusal (λ refusal. OfJournal second (λ g others other.
      HasJournalCause h before (before ++ added) (length stood.legal.held.names) g others other m done refusal))

-- The new files, numbered on from `first`, are those that the archive has behind its old ones. A second archive without files
-- leaves the first alone, and so does one that may not come behind, of which no file is told. The second disk was only read.
pub record Merges (m : Merge) (first : ℕ) (old new second second_new : DiskState) : Type 0 where
  pub takes : FromArchive old (λ h before bytes stood. TakesOver second.seen h before stood m old new)
  pub numbered : m.files ≢ [] → OverJournal old.seen (λ journal. first ≡ length journal.names)
  pub cause : IfSome m.refusal (HasDiskCause old new second second_new)
  pub idle : OfJournal second.seen (λ g es other. other.names ≡ [] → KeepsBytes old new)
  pub nothing : MayNotCome m.refusal → KeepsBytes old new × (m.files ≡ [])
  pub only_read : KeepsBytes second second_new

-- no limit was met: of a dictionary, of the archive's length
abbrev pub MeetsNoLimit : Option MergeRefusal → Type 0
MeetsNoLimit (Some (MergeRefusal.ArchiveFull end need)) = ⊥
MeetsNoLimit (Some (MergeRefusal.Full book count)) = ⊥
MeetsNoLimit (Some (MergeRefusal.SegmentFull end need)) = ⊥
MeetsNoLimit _ = Unit {0}

abbrev pub merged_status : Option MergeRefusal → ℕ
merged_status None = 0
merged_status (Some refusal) = merge_status refusal

abbrev pub merged_line : List ℕ → Option MergeRefusal → List ℕ
merged_line name None = []
merged_line name (Some refusal) = merge_line name refusal

-- Each new file is printed, and why not all was merged. Where the output fails, or there is no memory for its lines, this alone
-- is told.
abbrev pub PrintsMerge : Merge → ℕ → Outside → ℕ → Type 0
PrintsMerge m first seen status =
    ((status ≡ merged_status m.refusal) × Grew seen.out.0 seen.out.1 (directory_from first m.files)
    × SaysIn seen (merged_line m.name m.refusal) × Stayed seen.out_faults)
    ⊎ (EndsWithoutOutput seen status
    × GrewByFront seen.out.0 seen.out.1 (directory_from first m.files) × RoseIn seen.out_faults)
    ⊎ (EndsWithoutMemory seen status × GrewByFront seen.out.0 seen.out.1 (directory_from first m.files) × Stayed seen.out_faults)
