-- What is in hand becomes a segment of the first archive.
use Rattle.std.specs.Prelude.{◌≡◌, ◌≤◌, ◌+◌, ◌<◌, ℕ, ◌&&◌, true, false, List, ◌++◌, length, All, Option, Some}
use Rattle.log_seams.specs.Disk.{DiskState}
use Rattle.turn_lock.specs.Words.{number_of, seen}
use Rattle.column_store.specs.declared.row.Row.{Row}
use Rattle.row_codec.specs.Messages.{IsMessage}
use Rattle.row_codec.specs.declared.namer.Which.{Which}
use Rattle.row_codec.specs.declared.namer.Which.TheVariants.{Types, Words}
use Rattle.segment_format.specs.Layout.{sorted_set}
use Rattle.row_rename.specs.Renamed.{used_in}
use Rattle.segment_pages.specs.Paged.{HoldsSegment}
use Rattle.archive_meaning.specs.declared.TheConstants.{MAX_ROWS, MAX_MESSAGES}
use Rattle.archive_meaning.specs.Held.{last_is_open}
use Rattle.archive_core.specs.Rows.{AreMessages}
use Rattle.archive_open.specs.declared.segments.SegmentPlace.{SegmentPlace}
use Rattle.disk_seal.specs.declared.draft.Draft.{Draft}
use Rattle.disk_seal.specs.declared.namer.LockNamer.{LockNamer}
use Rattle.disk_seal.specs.Draft.{journal_seen}
use Rattle.disk_seal.specs.Fixed.{KeeperPass}
use Rattle.disk_seal.specs.Known.{known_of}
use Rattle.disk_seal.specs.Planned.{segment_of}
use Rattle.ingest_workers.specs.Journal.{HasSoFar, Holds, WhereTold}
use Rattle.ingest_workers.specs.MaySeal.{IsWorker}
use Rattle.ingest_workers.specs.Namer.{HasNoRoom, types_pass, types_seen, words_pass, words_seen}
use Rattle.ingest_workers.specs.Naming.{AddsOnly}
use Rattle.ingest_workers.specs.Sealed.{HasSealed}
use Rattle.archive_merge.specs.declared.hand.Hand.{Hand}
use Rattle.archive_merge.specs.declared.taker.Taker.{Taker}
use Rattle.archive_merge.specs.InHand.{HasInHand, IsEmpty, Texts}
use Rattle.archive_merge.specs.Taken.{Books, Serves}

module _ {R A B C : Type 0} where
  -- what a namer over two shared books knows, and the texts
  abbrev pub books_in : LockNamer R A B C → Books
  books_in n = record { types = known_of (types_pass n); words = known_of (words_pass n) }

  abbrev pub texts_seen : LockNamer R A B C → Texts
  texts_seen n = record { types = types_seen n; words = words_seen n }

module _ {R A B C : Type 0} where
  -- both passes of the namer have seen more, and what they added meanwhile are such texts
  pub record AddsTexts (P : Which → List ℕ → Type 0) (m n : LockNamer R A B C) : Type 0 where
    pub types : AddsOnly (P Types) (types_pass m) (types_pass n)
    pub words : AddsOnly (P Words) (words_pass m) (words_pass n)

-- it was sealed, and nothing is in hand behind it
pub record IsEmptied (old new : Hand) : Type 0 where
  pub file : new.draft.file ≡ old.draft.file
  pub first : new.draft.first ≡ old.draft.first + length old.draft.columns.rows
  pub last : new.draft.last ≡ old.draft.last
  pub ended : new.draft.ended ≡ old.draft.ended
  pub empty : IsEmpty new
  pub open_is : new.open_end ≡ old.open_end

module _ {D R A B C : Type 0} where
  -- The segment in hand may go on with the file of the pass behind the messages that this has. Only a last segment may have none,
  -- and only where its last line had its newline, or the file's last message is one without.
  pub record MaySeal (state : D → DiskState) (p : KeeperPass D) (n : LockNamer R A B C) (hand : Hand) : Type 0 where
    pub covered : List (List ℕ)
    pub messages : List (List ℕ)
    pub worker : IsWorker p n
    pub file : hand.draft.file ≡ number_of p
    pub first : hand.draft.first ≡ length covered
    pub so_far : HasSoFar state p covered
    pub has : HasInHand n.version (texts_seen n) messages hand
    pub each : All (IsMessage n.version) messages
    pub few : length hand.draft.columns.rows ≤ MAX_ROWS
    pub most : hand.draft.first + length hand.draft.columns.rows ≤ MAX_MESSAGES
    pub some : hand.draft.last ≡ false → 0 < length hand.draft.columns.rows
    pub ended : hand.draft.ended ≡ true → hand.draft.last ≡ true
    pub end : hand.draft.last ≡ true → hand.draft.ended ≡ false → last_is_open (covered ++ messages) ≡ true

  -- the segment in hand and the texts before it do not fit
  pub record LacksRoom (state : D → DiskState) (hand : Hand) (end need : ℕ) (p q : KeeperPass D) (m n : LockNamer R A B C)
      : Type 0 where
    pub draft : Draft
    pub is : segment_of draft ≡ segment_of hand.draft
    pub words : draft.words ≡ sorted_set (used_in hand.renamed)
    pub no_room : HasNoRoom state draft end need p q m n

  -- The namer goes with the pass, and so does what takes rows over. Both archives have this version.
  pub record IsMover (version : ℕ) (old : Texts) (p : KeeperPass D) (n : LockNamer R A B C) (taker : Taker) : Type 0 where
    pub worker : IsWorker p n
    pub version_is : n.version ≡ version
    pub serves : Serves version old (books_in n) taker

module _ {D : Type 0} (state : D → DiskState) where
  -- Nothing is in hand. The pass' file has these messages, and is whole and ended as the hand is marked.
  pub record StandsBehind (covered : List (List ℕ)) (p : KeeperPass D) (hand : Hand) : Type 0 where
    pub empty : IsEmpty hand
    pub file : hand.draft.file ≡ number_of p
    pub first : hand.draft.first ≡ length covered
    pub open_is : hand.open_end ≡ last_is_open covered
    pub holds : WhereTold state p (λ h.
        Holds h (journal_seen (seen p)) hand.draft.file covered hand.draft.last (hand.draft.last && hand.draft.ended))

  -- The segment at the place became the next one of the pass' file, which was not whole, with its marks and the numbers of the
  -- first archive. Where the bytes are told, its messages are those of the rows of the segment that stands there.
  pub record MovesSegment (version : ℕ) (old : Texts) (place : SegmentPlace) (told : Option (List ℕ)) (hand hand_new : Hand)
      (p q : KeeperPass D) : Type 0 where
    pub rows : List Row
    pub messages : List (List ℕ)
    pub source : AreMessages version old.types old.words rows messages
    pub rows_are : (bytes : List ℕ) (all : List Row) → told ≡ Some bytes
        → HoldsSegment place.payload place.length place.head bytes all → all ≡ rows
    pub draft : Draft
    pub file : draft.file ≡ hand.draft.file
    pub at : draft.first ≡ place.head.first
    pub counted : length draft.columns.rows ≡ length messages
    pub begun : hand.draft.last ≡ false
    pub marks : (draft.last ≡ place.head.last) × (draft.ended ≡ place.head.ended)
    pub sealed : HasSealed state draft p q
    pub last : hand_new.draft.last ≡ place.head.last
    pub ended : hand_new.draft.ended ≡ place.head.ended
    pub goes : (covered : List (List ℕ)) → StandsBehind covered p hand → StandsBehind (covered ++ messages) q hand_new
