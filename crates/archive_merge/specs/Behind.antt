-- The files of a second archive behind those of a journal.
use Rattle.std.specs.Prelude.{◌≡◌, ◌⊎◌, ℕ, ◌+◌, ◌-◌, ◌<◌, ◌≤◌, ◌&&◌, Bool, false, List, [], ◌++◌, length, is_some, Option, None, Some, slice_get, All, min}
use Rattle.std.specs.List.{Contains, filter, filter_map, list_any, sum_by}
use Rattle.std.specs.List.Sorted.{IsNonDecreasingBy}
use mathlib.Core.List.{IsPrefix}
use Rattle.log_seams.specs.Disk.{DiskState}
use Rattle.log_seams.specs.declared.disk.Disk.{Ghosts as DiskGhosts}
use Rattle.log_seams.specs.Outside.{Rose}
use Rattle.plain_list.specs.Texts.{IsNew}
use Rattle.logtype_text.specs.Fair.{IsFairType, IsFairWord}
use Rattle.row_codec.specs.declared.namer.Which.{Which}
use Rattle.row_codec.specs.declared.namer.Which.TheVariants.{Types as WhichTypes, Words as WhichWords}
use Rattle.disk_journal.specs.declared.journal.Journal.{Journal}
use Rattle.disk_journal.specs.Journal.{state_of}
use Rattle.disk_journal.specs.State.{JournalState}
use Rattle.archive_meaning.specs.declared.TheConstants.{MAX_FILES}
use Rattle.archive_meaning.specs.declared.entry.JournalEntry.{JournalEntry}
use Rattle.archive_meaning.specs.declared.entry.JournalEntry.TheVariants.{Files, Segment, Types, Words}
use Rattle.archive_meaning.specs.declared.entry.SegmentEntry.{SegmentEntry}
use Rattle.archive_meaning.specs.Spelled.{types_of, end_of, words_named}
use Rattle.ingest_meaning.specs.Dictionaries.{IsFullBy, book_texts, header_limits, limit_of, HasTextsBehind}
use Rattle.ingest_meaning.specs.Parts.{in_file}
use Rattle.ingest_meaning.specs.WordsIn.{words_of}
use Rattle.archive_open.specs.declared.segments.SegmentPlace.{SegmentPlace}
use Rattle.archive_open.specs.OfFile.{is_of}
use Rattle.disk_seal.specs.Opening.{MayOpen}
use Rattle.disk_seal.specs.Told.{IfTold}
use Rattle.disk_seal.specs.View.{StoreView, journal_of, state_by}
use Rattle.ingest_workers.specs.Ingested.{IsLeftBy, told_entries}
use Rattle.ingest_workers.specs.Journal.{FrontHolds, Holds}
use Rattle.ingest_workers.specs.NoRoom.{IsBetween}
use Rattle.column_store.specs.declared.row.Row.{Row}
use Rattle.archive_core.specs.Rows.{AreMessages}
use Rattle.segment_pages.specs.Paged.{HoldsSegment}
use Rattle.row_codec.specs.Means.{AreCanonical}
use Rattle.ingest_meaning.specs.Room.{needed_behind}
use Rattle.archive_merge.specs.declared.cause.MergeCause.{MergeCause}
use Rattle.archive_merge.specs.declared.cause.MergeCause.TheVariants.{ArchiveFull, FirstFault, Full, SecondDamaged, SecondFault}
use Rattle.archive_merge.specs.declared.file.Merged.{Merged}
use Rattle.archive_merge.specs.declared.merger.Second.{Second}
use Rattle.archive_merge.specs.declared.merger.Stopped.{Stopped}
use Rattle.archive_merge.specs.declared.taker.Taker.{Taker}
use Rattle.archive_merge.specs.Files.{AreCutAs, IsNotDone}
use Rattle.archive_merge.specs.InHand.{Texts}
use Rattle.archive_merge.specs.Merger.{IsReachedOf, StaysRead, file_at}
use Rattle.archive_merge.specs.Needed.{IsNeeded}
use Rattle.archive_merge.specs.Runs.{HoldRun, SoFar, nothing_so_far}
use Rattle.archive_merge.specs.Taken.{Books, Serves, texts_by}

-- ---- the second archive

-- what contracts tell of it: its version and texts, its disk's bytes, where they are told, and its segments
pub record SecondView : Type 0 where
  pub version : ℕ
  pub texts : Texts
  pub told : Option (List ℕ)
  pub segments : List SegmentPlace

module _ {M E : Type 0} where
  abbrev pub second_by : (M → List (List ℕ)) → (M → List (List ℕ)) → (M → ℕ) → (E → DiskState) → Second M E → SecondView
  second_by types words version state s = record {
    version = version s.names.now;
    texts = texts_by types words s.names.now;
    told = (state s.disk.now).seen;
    segments = s.segments.now;
  }

  -- It is the same, and its disk was only read. Where a fault of this disk stopped a file, its count of faults rose.
  pub record OnlyRead (state : E → DiskState) (stop : Option Stopped) (a b : Second M E) : Type 0 where
    pub stays : StaysRead state a b
    pub later : (state a.disk.now).faults ≤ (state b.disk.now).faults
    pub fault : (why : Stopped) → stop ≡ Some why → why.cause ≡ SecondFault
        → Rose (state a.disk.now).faults (state b.disk.now).faults

-- the taker serves an archive of this version with these texts, and keeps no number yet
abbrev pub MayServe : ℕ → Texts → Taker → Type 0
MayServe version old taker = (books : Books) → Serves version old books taker

-- The second archive's bytes are told, its segments are sorted by file, and those of the file with this number are a run to this.
pub record HasRun (s : SecondView) (number : ℕ) (all : SoFar) : Type 0 where
  pub bytes : List ℕ
  pub told_is : s.told ≡ Some bytes
  pub sorted : IsNonDecreasingBy file_at s.segments
  pub run : HoldRun s.version s.texts bytes (filter (is_of number) s.segments) nothing_so_far all

-- the places of its segments of the file with this number
abbrev pub places_for : SecondView → ℕ → List SegmentPlace
places_for s number = filter (is_of number) s.segments

-- no file was stopped, or one behind the one with this number
abbrev pub IsDone : Option Stopped → ℕ → Type 0
IsDone None number = Unit {0}
IsDone (Some why) number = number < why.file

-- its log types, or its words
abbrev pub old_texts : SecondView → Which → List (List ℕ)
old_texts s WhichTypes = s.texts.types
old_texts s WhichWords = s.texts.words

-- how many of so many files were done
abbrev pub done_of : ℕ → ℕ → Option Stopped → ℕ
done_of first count None = count
done_of first count (Some why) = why.file - first

-- the texts that rows of its segments need that were reached of these files, up to the one with so many before it
abbrev pub needed_of : SecondView → ℕ → ℕ → List Merged → Which → List ℕ → Type 0
needed_of s first done files = IsNeeded s.texts s.told (IsReachedOf s.version s.texts s.told s.segments first done files)

-- the texts of a book are those of the entries, and others that are needed
abbrev pub AreOfBoth : (Which → List ℕ → Type 0) → List JournalEntry → Which → List (List ℕ) → Type 0
AreOfBoth needs front book texts = HasTextsBehind (needs book) (book_texts book front) texts

-- ---- before

-- the file has this number, and nothing of it is sealed: where the journal is told, it has a name there and no segment
pub record IsNewIn (j : JournalState) (number : ℕ) (file : Merged) : Type 0 where
  pub file_is : file.file ≡ number
  pub messages_none : file.messages ≡ 0
  pub not_whole : file.whole ≡ false
  pub empty : IfTold (is_some j.disk.seen) (Holds j.header (told_entries j) file.file [] false false)

-- the entry is one of texts, or a segment of one of the files
abbrev pub IsOfFiles : List Merged → JournalEntry → Type 0
IsOfFiles files (Files names) = ⊥
IsOfFiles files (Types first texts) = Unit {0}
IsOfFiles files (Words first texts) = Unit {0}
IsOfFiles files (Segment s) = (i : ℕ) × (file : Merged) × (slice_get files i ≡ Some file) × (file.file ≡ s.file)

module _ {D : Type 0} {d : DiskGhosts D} where
  -- The files may be moved behind the journal from an archive of this version, which is the journal's. They are new in it, and
  -- have the numbers from the first one on.
  pub record MayBegin (first version : ℕ) (before : Journal D d) (files : List Merged) : Type 0 where
    pub version_is : version ≡ before.header.version
    pub journal : MayOpen (state_of before)
    pub new : (i : ℕ) (file : Merged) → slice_get files i ≡ Some file → IsNewIn (state_of before) (first + i) file
    pub few : first + length files ≤ MAX_FILES

  -- ---- after

  -- The file has messages that are the first ones of the second archive's file with its number there, in segments as the first ones
  -- there; and all of them, with its marks, where it is done. One that is not done is no whole one, and behind the one that was
  -- stopped they have nothing. Where the journal is told, these are the file's segments among the new entries, and a front of the
  -- journal holds exactly these messages of the file.
  pub record IsMovedFile (s : SecondView) (first : ℕ) (stop : Option Stopped) (before : Journal D d) (fresh : List JournalEntry)
      (old new : Merged) : Type 0 where
    pub file : new.file ≡ old.file
    pub covered : List (List ℕ)
    pub ended : Bool
    pub count : new.messages ≡ length covered
    pub first_ones : (all : SoFar) → HasRun s (old.file - first) all → IsPrefix covered all.messages
    pub all : IsDone stop old.file → (all : SoFar) → HasRun s (old.file - first) all
        → all ≡ record { messages = covered; whole = new.whole; ended = new.whole && ended }
    pub part : (why : Stopped) → stop ≡ Some why → why.file ≤ old.file → (all : SoFar) → HasRun s (old.file - first) all
        → new.whole ≡ false
    pub none : (why : Stopped) → stop ≡ Some why → why.file < old.file → (new.messages ≡ 0) × (new.whole ≡ false)
    pub segments : List SegmentEntry
    pub cuts : (all : SoFar) → HasRun s (old.file - first) all → AreCutAs old.file (places_for s (old.file - first)) segments
    pub rows_count : sum_by (λ (e : SegmentEntry). length e.rows) segments ≡ length covered
    pub last_is : list_any (λ (e : SegmentEntry). e.last) segments ≡ new.whole
    pub ended_is : list_any (λ (e : SegmentEntry). e.last && e.ended) segments ≡ (new.whole && ended)
    pub sealed : IfTold (is_some (state_of before).disk.seen) (filter_map (in_file old.file) fresh ≡ segments)
    pub held : IfTold (is_some (state_of before).disk.seen)
        (FrontHolds before.header (told_entries (state_of before) ++ fresh) old.file covered new.whole (new.whole && ended))

  -- The next segment of a file, which has so many messages, did not fit: the archive ended behind some entries between those of
  -- before and those of afterwards, and takes so many bytes more by the record of the segment and those of the texts of both books
  -- that these entries do not have. This holds of all texts that a book had then. The segment is that at the place, which is one
  -- of the file's, with its marks; by these texts its rows are the encodings of the messages of the rows that stand there.
  pub record LackedRoom (has : List JournalEntry → Which → List (List ℕ) → Type 0) (s : SecondView) (first file done : ℕ)
      (before after : Journal D d) (end need : ℕ) : Type 0 where
    pub place : SegmentPlace
    pub there : IsNonDecreasingBy file_at s.segments → Contains (places_for s (file - first)) place
    pub front : List JournalEntry
    pub between : IsBetween (told_entries (state_of before)) (told_entries (state_of after)) front
    pub ends : end ≡ end_of before.header front
    pub types : List (List ℕ)
    pub words : List (List ℕ)
    pub has_types : has front WhichTypes types
    pub has_words : has front WhichWords words
    pub segment : SegmentEntry
    pub numbers : List ℕ
    pub file_is : segment.file ≡ file
    pub next : segment.first ≡ done
    pub at : segment.first ≡ place.head.first
    pub marks : (segment.last ≡ place.head.last) × (segment.ended ≡ place.head.ended)
    pub rows : List Row
    pub rows_are : (bytes : List ℕ) (all : List Row) → s.told ≡ Some bytes
        → HoldsSegment place.payload place.length place.head bytes all → all ≡ rows
    pub messages : List (List ℕ)
    pub source : AreMessages s.version s.texts.types s.texts.words rows messages
    pub canonical : AreCanonical s.version segment.rows types words messages
    pub numbers_are : numbers ≡ words_named types segment.rows
    pub needs : need ≡ min (needed_behind segment numbers front types words) 18446744073709551615

  -- Why not all of this file was moved, which has so many messages: by this a book is full at so many texts; so many bytes behind
  -- an end go past the header's limit, by the next segment of the file, where this holds of a book's texts; the first disk's count
  -- of faults rose, to this one; the second archive's segments of the file are no run with texts that dictionaries may hold. Want of memory is
  -- free.
  abbrev pub HasStopCause : (Which → ℕ → Type 0) → (List JournalEntry → Which → List (List ℕ) → Type 0) → SecondView → ℕ → ℕ
      → ℕ → Journal D d → Journal D d → MergeCause → Type 0
  HasStopCause full has s first file done before after (Full book count) = full book count
  HasStopCause full has s first file done before after (ArchiveFull end need) =
      (before.header.length_limit < end + need)
      × IfTold (is_some (state_of before).disk.seen) (LackedRoom has s first file done before after end need)
  HasStopCause full has s first file done before after (FirstFault opened now) =
      (opened ≡ (state_of before).disk.faults) × Rose opened (state_of after).disk.faults × (now ≡ (state_of after).disk.faults)
  HasStopCause full has s first file done before after SecondDamaged =
      All IsFairType s.texts.types → All IsFairWord s.texts.words → (all : SoFar) → ¬ HasRun s (file - first) all
  HasStopCause full has s first file done before after _ = Unit {0}

  -- It stopped one of the files, as they are now, for such a cause, and this one is not done.
  pub record HasStopped (full : Which → ℕ → Type 0) (has : List JournalEntry → Which → List (List ℕ) → Type 0)
      (s : SecondView) (first : ℕ) (files : List Merged) (before after : Journal D d) (why : Stopped) : Type 0 where
    pub place : ℕ
    pub file : Merged
    pub is : slice_get files place ≡ Some file
    pub file_is : why.file ≡ file.file
    pub not_done : (all : SoFar) → HasRun s (file.file - first) all → IsNotDone (places_for s (file.file - first)) file
    pub cause : HasStopCause full has s first file.file file.messages before after why.cause

  -- Where the journal is told, a book may have so many texts by the header, and there are as many of the journal and of those that
  -- are needed; and one more of the second archive, which is none of the journal.
  abbrev pub IsFullByBoth : (Which → List ℕ → Type 0) → SecondView → Journal D d → Which → ℕ → Type 0
  IsFullByBoth needs s before book count =
      IfTold (is_some (state_of before).disk.seen) ((count ≡ limit_of (header_limits before.header) book)
      × IsFullBy (λ t. Contains (book_texts book (told_entries (state_of before))) t ⊎ needs book t)
      (λ t. Contains (old_texts s book) t × IsNew (book_texts book (told_entries (state_of before))) t) count)

  -- Each file was moved. Where they are told, the journal's entries are those of before and new ones, which are texts and
  -- segments of the files.
  pub record HasStored (s : SecondView) (first : ℕ) (stop : Option Stopped) (files files' : List Merged)
      (before after : Journal D d) (store : StoreView D) : Type 0 where
    pub left_by : IsLeftBy store before after
    pub fresh : List JournalEntry
    pub grown : journal_of (state_by d.state store) ≡ told_entries (state_of before) ++ fresh
    pub counted : length files' ≡ length files
    pub each : (i : ℕ) (file : Merged) → slice_get files i ≡ Some file
        → (new : Merged) × (slice_get files' i ≡ Some new) × IsMovedFile s first stop before fresh file new
    pub others : All (IsOfFiles files) fresh

  -- The same, and each text that the new entries add is one that a row of the second archive needs which was reached. What stopped
  -- a file has its cause.
  pub record HasMerged (s : SecondView) (first : ℕ) (stop : Option Stopped) (files files' : List Merged)
      (before after : Journal D d) : Type 0 where
    pub store : StoreView D
    pub stored : HasStored s first stop files files' before after store
    pub types : All (needed_of s first (done_of first (length files') stop) files' WhichTypes) (types_of stored.fresh)
    pub words : All (needed_of s first (done_of first (length files') stop) files' WhichWords) (words_of stored.fresh)
    pub why : (why : Stopped) → stop ≡ Some why
        → HasStopped (IsFullByBoth (needed_of s first (done_of first (length files') stop) files') s before)
        (AreOfBoth (needed_of s first (done_of first (length files') stop) files')) s first files' before after why
