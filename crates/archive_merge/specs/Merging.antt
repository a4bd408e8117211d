-- The files of a second archive behind those of a first: their names, and then what was moved of them.
use Rattle.std.specs.Prelude.{◌≡◌, ◌≢◌, ◌+◌, ◌-◌, ◌<◌, ◌≤◌, ◌&&◌, ℕ, Bool, false, List, [], ◌++◌, length, take, is_some, Option, None, Some, slice_get, All}
use Rattle.std.specs.Borrow.{MutBor}
use Rattle.std.specs.List.{filter_map, list_any, sum_by}
use mathlib.Core.List.{IsPrefix}
use Rattle.log_seams.specs.Disk.{DiskState, Rests}
use Rattle.log_seams.specs.declared.disk.Disk.{Ghosts as DiskGhosts}
use Rattle.log_seams.specs.Outside.{Rose}
use Rattle.row_codec.specs.declared.namer.Which.TheVariants.{Types, Words}
use Rattle.disk_journal.specs.declared.journal.Journal.{Journal}
use Rattle.disk_journal.specs.Journal.{state_of}
use Rattle.disk_journal.specs.State.{JournalState}
use Rattle.archive_meaning.specs.declared.TheConstants.{MAX_FILES}
use Rattle.archive_meaning.specs.declared.entry.JournalEntry.{JournalEntry}
use Rattle.archive_meaning.specs.declared.entry.SegmentEntry.{SegmentEntry}
use Rattle.archive_meaning.specs.Spelled.{types_of}
use Rattle.ingest_meaning.specs.Parts.{in_file}
use Rattle.ingest_meaning.specs.WordsIn.{words_of}
use Rattle.disk_seal.specs.Opening.{MayOpen}
use Rattle.disk_seal.specs.Registered.{HoldsNames}
use Rattle.disk_seal.specs.Told.{IfTold}
use Rattle.ingest_meaning.specs.declared.refusal.RegisterRefusal.TheVariants.{DiskFault}
use Rattle.ingest_workers.specs.Ingested.{told_entries}
use Rattle.ingest_workers.specs.Journal.{FrontHolds}
use Rattle.archive_merge.specs.declared.cause.MergeCause.TheVariants.{SecondFault}
use Rattle.archive_merge.specs.declared.file.Merged.{Merged}
use Rattle.archive_merge.specs.declared.merging.ToMerge.{ToMerge}
use Rattle.archive_merge.specs.declared.refusal.MergeRefusal.{MergeRefusal}
use Rattle.archive_merge.specs.declared.refusal.MergeRefusal.TheVariants.{LongName, Names, OutOfMemory, Stopped}
use Rattle.archive_merge.specs.Behind.{AreOfBoth, HasRun, HasStopped, IsFullByBoth, IsOfFiles, SecondView, needed_of, places_for}
use Rattle.archive_merge.specs.Files.{AreCutAs}
use Rattle.name_records.specs.Left.{HasGoneOn, LeavesEntries}
use Rattle.name_records.specs.Named.{AreNamesOf, HasNamesCause, IsShort}
use Rattle.archive_merge.specs.Runs.{SoFar}
use Rattle.archive_merge.specs.Taken.{texts_by}

module _ {M E : Type 0} where
  -- what contracts tell of a second archive: its version and texts, its disk's bytes, where they are told, and its segments
  abbrev pub view_of : (M → List (List ℕ)) → (M → List (List ℕ)) → (M → ℕ) → (E → DiskState) → ToMerge M E → SecondView
  view_of types words version state s = record {
    version = version s.names.now;
    texts = texts_by types words s.names.now;
    told = (state s.disk.now).seen;
    segments = s.segments.now;
  }

-- the disk is lent again, and was only read; where a fault of it stopped a file, its count of faults rose
pub record WasOnlyRead {E : Type 0} (state : E → DiskState) (refusal : Option MergeRefusal) (a b : MutBor E) : Type 0 where
  pub lent : b.ghost_name ≡ a.ghost_name
  pub rests : Rests (state a.now) (state b.now)
  pub later : (state a.now).faults ≤ (state b.now).faults
  pub fault : (file : ℕ) → refusal ≡ Some (Stopped file SecondFault) → Rose (state a.now).faults (state b.now).faults

-- how many of so many files are done, by a refusal: all without one, else those before the one that was stopped, or none
abbrev pub done_by : ℕ → ℕ → Option MergeRefusal → ℕ
done_by first count None = count
done_by first count (Some (Stopped file cause)) = file - first
done_by first count (Some _) = 0

-- The file has messages that are the first ones of the second archive's file with this number, in segments as the first ones there.
-- The first so many files are done, and have all of them, with their marks. Of the others none is whole, and only the first of them
-- has messages. Where the journal is told, these are the file's segments among the entries that were added, and a front of the
-- journal holds exactly these messages of the file.
pub record IsMergedFile (s : SecondView) (number done : ℕ) (before : JournalState) (added : List JournalEntry) (file : Merged)
    : Type 0 where
  pub covered : List (List ℕ)
  pub ended : Bool
  pub count : file.messages ≡ length covered
  pub first_ones : (all : SoFar) → HasRun s number all → IsPrefix covered all.messages
  pub all : number < done → (all : SoFar) → HasRun s number all
      → all ≡ record { messages = covered; whole = file.whole; ended = file.whole && ended }
  pub part : done ≤ number → (all : SoFar) → HasRun s number all → file.whole ≡ false
  pub none : done < number → (file.messages ≡ 0) × (file.whole ≡ false)
  pub segments : List SegmentEntry
  pub cuts : (all : SoFar) → HasRun s number all → AreCutAs file.file (places_for s number) segments
  pub rows_count : sum_by (λ (e : SegmentEntry). length e.rows) segments ≡ length covered
  pub last_is : list_any (λ (e : SegmentEntry). e.last) segments ≡ file.whole
  pub ended_is : list_any (λ (e : SegmentEntry). e.last && e.ended) segments ≡ (file.whole && ended)
  pub sealed : IfTold (is_some before.disk.seen) (filter_map (in_file file.file) added ≡ segments)
  pub held : IfTold (is_some before.disk.seen)
      (FrontHolds before.header (told_entries before ++ added) file.file covered file.whole (file.whole && ended))

module _ {D : Type 0} {d : DiskGhosts D} where
  -- So many files of an archive of this version may come behind the journal, whose files they are numbered on from `first`.
  pub record MayMerge (first version count : ℕ) (before : Journal D d) : Type 0 where
    pub version_is : version ≡ before.header.version
    pub opens : MayOpen (state_of before)
    pub holds : HoldsNames first (state_of before)
    pub few : first + count ≤ MAX_FILES

  -- The files are the first ones of those with these names, and all where nothing was refused. To the journal their names were
  -- added, and then segments of the files, and texts that rows of the second archive need and no others: rows of segments that
  -- were reached.
  pub record HasMergedAll (s : SecondView) (first : ℕ) (names : List (List ℕ)) (files : List Merged)
      (refusal : Option MergeRefusal) (before after : Journal D d) : Type 0 where
    pub goes : HasGoneOn (state_of before) (state_of after)
    pub within : length files ≤ length names
    pub done : refusal ≡ None → length files ≡ length names
    pub numbers : (i : ℕ) (file : Merged) → slice_get files i ≡ Some file → file.file ≡ first + i
    -- what was added
    pub naming : List JournalEntry
    pub named : AreNamesOf naming (take (length files) names)
    pub fresh : List JournalEntry
    pub others : All (IsOfFiles files) fresh
    pub types : All (needed_of s first (done_by first (length files) refusal) files Types) (types_of fresh)
    pub words : All (needed_of s first (done_by first (length files) refusal) files Words) (words_of fresh)
    pub each : (i : ℕ) (file : Merged) → slice_get files i ≡ Some file
        → IsMergedFile s i (done_by first (length files) refusal) (state_of before) (naming ++ fresh) file
    -- the disk, at each moment since the start and at the end
    pub left : IfTold (is_some (state_of before).disk.seen) (LeavesEntries before.header (told_entries (state_of before))
        (told_entries (state_of before) ++ (naming ++ fresh)) (state_of before).disk (state_of after).disk)
    pub entries : refusal ≢ Some (Names DiskFault) → IfTold (is_some (state_of before).disk.seen)
        (told_entries (state_of after) ≡ told_entries (state_of before) ++ (naming ++ fresh))
    pub again : ¬ Rose (state_of before).disk.faults (state_of after).disk.faults → MayOpen (state_of after)

  -- Why not all files are there, or not whole: a name is longer than an archive's may be, and nothing was done; not all names
  -- were registered; a file was stopped. Want of memory is free.
  abbrev pub HasMergeCause : SecondView → ℕ → List (List ℕ) → List Merged → Journal D d → Journal D d → MergeRefusal → Type 0
  HasMergeCause s first names files before after LongName = (¬ All IsShort names) × (files ≡ []) × (after ≡ before)
  HasMergeCause s first names files before after (Names why) =
      HasNamesCause names (length files) (state_of before) (state_of after) why
  HasMergeCause s first names files before after (Stopped file cause) =
      HasStopped (IsFullByBoth (needed_of s first (file - first) files) s before)
      (AreOfBoth (needed_of s first (file - first) files)) s first files before after (record { file = file; cause = cause })
  HasMergeCause s first names files before after OutOfMemory = Unit {0}

  -- all of this, by the answer
  pub record EndsMerge (s : SecondView) (first : ℕ) (names : List (List ℕ)) (files : List Merged) (refusal : Option MergeRefusal)
      (before after : Journal D d) : Type 0 where
    pub merged : HasMergedAll s first names files refusal before after
    pub cause : (why : MergeRefusal) → refusal ≡ Some why → HasMergeCause s first names files before after why
