-- Why not all messages of the second archive were sealed.
use Rattle.std.specs.Prelude.{◌≡◌, ℕ, List, Option, Some}
use Rattle.std.specs.List.{Contains}
use Rattle.log_seams.specs.Disk.{DiskState}
use mathlib.Core.List.{IsPrefix}
use Rattle.turn_lock.specs.Words.{noted, number_of}
use Rattle.column_store.specs.declared.row.Row.{Row}
use Rattle.row_codec.specs.Means.{AreCanonical}
use Rattle.row_rename.specs.Causes.{IsFull}
use Rattle.archive_meaning.specs.Spelled.{words_named}
use Rattle.archive_core.specs.Rows.{AreMessages}
use Rattle.archive_open.specs.declared.segments.SegmentPlace.{SegmentPlace}
use Rattle.disk_seal.specs.declared.draft.Draft.{Draft}
use Rattle.disk_seal.specs.Fixed.{KeeperPass}
use Rattle.disk_seal.specs.Prepare.{BookNote, IsFullAt}
use Rattle.segment_pages.specs.Paged.{HoldsSegment}
use Rattle.ingest_workers.specs.declared.outcome.Cause.{Cause}
use Rattle.ingest_workers.specs.declared.outcome.Cause.TheVariants.{ArchiveFull, DiskFault, OutOfMemory}
use Rattle.ingest_workers.specs.Causes.{HasFailed}
use Rattle.archive_merge.specs.declared.cause.MergeCause.{MergeCause}
use Rattle.archive_merge.specs.declared.cause.MergeCause.TheVariants.{ArchiveFull as MergeArchiveFull, FirstFault, Full as MergeFull, OutOfMemory as MergeOutOfMemory, SecondDamaged, SecondFault}
use Rattle.archive_merge.specs.declared.stop.Stop.{Stop}
use Rattle.archive_merge.specs.declared.stop.Stop.TheVariants.{Full as StopFull, SecondDamaged as StopDamaged, SecondFault as StopFault, OutOfMemory as StopOutOfMemory}
use Rattle.archive_merge.specs.InHand.{Texts}
use Rattle.archive_merge.specs.Taken.{Books}

-- where rows were not taken over
abbrev pub cause_by : Stop → MergeCause
cause_by (StopFull book count) = MergeFull book count
cause_by StopDamaged = SecondDamaged
cause_by StopFault = SecondFault
cause_by StopOutOfMemory = MergeOutOfMemory

-- it is a cause for which a segment is not sealed
abbrev pub IsOfSealing : Cause → Type 0
IsOfSealing (ArchiveFull end need) = Unit {0}
IsOfSealing (DiskFault opened now) = Unit {0}
IsOfSealing OutOfMemory = Unit {0}
IsOfSealing _ = ⊥

-- where it was not
abbrev pub cause_of_sealing : Cause → MergeCause
cause_of_sealing (ArchiveFull end need) = MergeArchiveFull end need
cause_of_sealing (DiskFault opened now) = FirstFault opened now
cause_of_sealing _ = MergeOutOfMemory

module _ {D : Type 0} where
  -- The next segment of the pass' file, behind so many messages, does not fit with the texts of both books that are not saved. It
  -- is the one at one of the places, with its marks. Where the bytes are told, its rows are the encodings of the messages of the
  -- rows that stand there; all texts of both books are among what is known of them.
  pub record HasNoRoomNow (state : D → DiskState) (version : ℕ) (old : Texts) (places : List SegmentPlace)
      (told : Option (List ℕ)) (done end need : ℕ) (p q : KeeperPass D) (books : Books) : Type 0 where
    pub place : SegmentPlace
    pub there : Contains places place
    pub rows : List Row
    pub rows_are : (bytes : List ℕ) (all : List Row) → told ≡ Some bytes
        → HoldsSegment place.payload place.length place.head bytes all → all ≡ rows
    pub messages : List (List ℕ)
    pub source : AreMessages version old.types old.words rows messages
    pub draft : Draft
    pub before : Texts
    pub file : draft.file ≡ number_of p
    pub next : draft.first ≡ done
    pub at : draft.first ≡ place.head.first
    pub marks : (draft.last ≡ place.head.last) × (draft.ended ≡ place.head.ended)
    pub canonical : AreCanonical version draft.columns.rows before.types before.words messages
    pub numbers : draft.words ≡ words_named before.types draft.columns.rows
    pub types : BookNote
    pub words : BookNote
    pub full : IsFullAt state draft end need types words before.types before.words p q
    pub types_on : IsPrefix (noted types) books.types.texts
    pub words_on : IsPrefix (noted words) books.words.texts

  -- Why the segment at one of the places was not moved behind so many messages of its file, where this is known of the books. Want
  -- of memory is free, and of the second archive's disk and bytes other clauses tell.
  abbrev pub HasMoveCause : (D → DiskState) → ℕ → Texts → List SegmentPlace → Option (List ℕ) → ℕ → KeeperPass D → KeeperPass D
      → Books → MergeCause → Type 0
  HasMoveCause state version old places told done p q books (MergeFull book count) =
      IsFull book old.types old.words books.types books.words count
  HasMoveCause state version old places told done p q books (MergeArchiveFull end need) =
      HasNoRoomNow state version old places told done end need p q books
  HasMoveCause state version old places told done p q books (FirstFault opened now) = HasFailed state p q opened now
  HasMoveCause state version old places told done p q books _ = Unit {0}
