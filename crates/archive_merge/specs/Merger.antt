-- What moves one file after the other: its passes of the two books, the second archive, and what stops it.
use Rattle.std.specs.Prelude.{◌≡◌, ◌≢◌, ℕ, ◌-◌, ◌≤◌, List, Option, None, Some, IsSome, slice_get}
use Rattle.std.specs.Prelude.{◌<◌, [], ◌∷◌, All, is_none, length}
use Rattle.std.specs.List.{Contains, filter}
use Rattle.std.specs.List.Sorted.{IsNonDecreasingBy}
use Rattle.log_seams.specs.Disk.{DiskState, Rests}
use Rattle.log_seams.specs.Outside.{Rose}
use Rattle.logtype_text.specs.Fair.{IsFairType, IsFairWord}
use Rattle.turn_lock.specs.declared.board.About.{About}
use Rattle.log_seams.specs.declared.disk.Disk.{Ghosts as DiskGhosts}
use Rattle.row_codec.specs.declared.namer.Which.{Which}
use Rattle.row_codec.specs.declared.namer.Which.TheVariants.{Types, Words}
use Rattle.row_codec.specs.declared.names.Names.{Ghosts as NamesGhosts}
use Rattle.turn_lock.specs.Words.{IsReady, about, lock_of, number_of}
use Rattle.dict_core.specs.declared.grows.TheConstants.{WORDS_FIRST}
use Rattle.dict_lock.specs.Cached.{pass_in}
use Rattle.archive_open.specs.declared.segments.SegmentPlace.{SegmentPlace}
use Rattle.archive_open.specs.OfFile.{is_of}
use Rattle.disk_seal.specs.declared.fixed.StoreFixed.{StoreFixed}
use Rattle.disk_seal.specs.Fixed.{KeeperPass}
use Rattle.disk_seal.specs.Known.{known_of}
use Rattle.disk_seal.specs.Prepare.{HasSeenOpening}
use Rattle.ingest_workers.specs.Naming.{AddsOnly}
use Rattle.archive_merge.specs.declared.cause.MergeCause.TheVariants.{SecondDamaged, SecondFault}
use Rattle.archive_merge.specs.declared.file.Merged.{Merged}
use Rattle.archive_merge.specs.declared.merger.BookPasses.{BookPasses}
use Rattle.archive_merge.specs.declared.merger.Merger.{Merger}
use Rattle.archive_merge.specs.declared.merger.Second.{Second}
use Rattle.archive_merge.specs.declared.merger.Stopped.{Stopped}
use Rattle.archive_merge.specs.declared.taker.Taker.{Taker}
use Rattle.archive_merge.specs.Causes.{HasMoveCause}
use Rattle.archive_merge.specs.Files.{CameOver, IsNewFile}
use Rattle.archive_merge.specs.InHand.{Texts}
use Rattle.archive_merge.specs.Needed.{IsNeeded}
use Rattle.archive_merge.specs.Runs.{HoldRun, IsReached, SoFar, nothing_so_far}
use Rattle.archive_merge.specs.Taken.{Books, Serves, texts_by}

-- ---- the passes

-- what they know of the two books
abbrev pub books_of : BookPasses → Books
books_of b = record { types = known_of (pass_in b.types); words = known_of (pass_in b.words) }

-- both are between two turns, one may add log types and one words
pub record MayName (b : BookPasses) : Type 0 where
  pub types_ready : IsReady (pass_in b.types)
  pub words_ready : IsReady (pass_in b.words)
  pub adds_types : number_of (pass_in b.types) < WORDS_FIRST
  pub adds_words : WORDS_FIRST < number_of (pass_in b.words)

-- what both added meanwhile are such texts
pub record PassesAdd (P : Which → List ℕ → Type 0) (b c : BookPasses) : Type 0 where
  pub types : AddsOnly (P Types) (pass_in b.types) (pass_in c.types)
  pub words : AddsOnly (P Words) (pass_in b.words) (pass_in c.words)

module _ {D : Type 0} where
  -- they are of the locks of the store that the pass is of, whose archive has this version, and the taker goes with them
  pub record GoesWith (version : ℕ) (old : Texts) (p : KeeperPass D) (b : BookPasses) (taker : Taker) : Type 0 where
    pub may : MayName b
    pub ready : IsReady p
    pub opening : HasSeenOpening p
    pub types_lock : (a : About (StoreFixed D)) → about p ≡ Some a → lock_of (pass_in b.types) ≡ a.fixed.types
    pub words_lock : (a : About (StoreFixed D)) → about p ≡ Some a → lock_of (pass_in b.words) ≡ a.fixed.words
    pub version_is : (a : About (StoreFixed D)) → about p ≡ Some a → version ≡ a.fixed.header.version
    pub serves : Serves version old (books_of b) taker

-- ---- the second archive

module _ {M E : Type 0} where
  -- the same archive, whose disk is lent still and was only read
  pub record StaysRead (state : E → DiskState) (a b : Second M E) : Type 0 where
    pub lent : b.disk.ghost_name ≡ a.disk.ghost_name
    pub names : b.names ≡ a.names
    pub segments : b.segments ≡ a.segments
    pub rests : Rests (state a.disk.now) (state b.disk.now)

-- ---- from file to file

-- one of the files stopped it
abbrev pub IsOneOf : List Merged → Stopped → Type 0
IsOneOf js s = (i : ℕ) × (j : Merged) × (slice_get js i ≡ Some j) × (s.file ≡ j.file)

-- the file that the segment at a place is of
abbrev pub file_at : SegmentPlace → ℕ
file_at place = place.head.file

-- The place is one of these. It was reached of one of the first files, up to the one with so many before it: where the places are
-- sorted by file, it is one of this file, and was reached by as many messages as the file has.
pub record IsReachedOf (version : ℕ) (old : Texts) (told : Option (List ℕ)) (places : List SegmentPlace) (first done : ℕ)
    (files : List Merged) (place : SegmentPlace) : Type 0 where
  pub number : ℕ
  pub file : Merged
  pub is : slice_get files number ≡ Some file
  pub upto : number ≤ done
  pub there : Contains places place
  pub reached : IsNonDecreasingBy file_at places
      → IsReached version old (filter (is_of (file.file - first)) places) told file.messages place

pub no_passes : IsSome {T = BookPasses} None → ⊥
no_passes none = cc (none)

abbrev pub passes_in : (o : Option BookPasses) → IsSome o → BookPasses
passes_in None none = absurd (no_passes none)
passes_in (Some b) some = b

-- the passes of what is between two files
abbrev pub passes_of : {M E : Type 0} {G : NamesGhosts M} {H : DiskGhosts E} → Merger M E G H → BookPasses
passes_of w = passes_in w.passes w.full

module _ {M E : Type 0} {G : NamesGhosts M} {H : DiskGhosts E} (types words : M → List (List ℕ)) (version : M → ℕ) where
  -- the texts of the second archive, and its version
  abbrev pub old_of : Merger M E G H → Texts
  old_of w = texts_by types words w.second.names.now

  abbrev pub version_of : Merger M E G H → ℕ
  version_of w = version w.second.names.now

  -- it is between two files
  pub record IsIdle (w : Merger M E G H) : Type 0 where
    pub may : MayName (passes_of w)
    pub serves : Serves (version_of w) (old_of w) (books_of (passes_of w)) w.second.taker

  -- the texts that rows of the second archive's segments need that were reached of these files
  abbrev pub needed_in : (E → DiskState) → Merger M E G H → List Merged → Which → List ℕ → Type 0
  needed_in state w files = IsNeeded (old_of w) (state w.second.disk.now).seen (IsReachedOf (version_of w) (old_of w)
      (state w.second.disk.now).seen w.second.segments.now w.first (length files) files)

  -- It did nothing but move files, named only texts that rows need which it reached, and only read the second archive. Once it was
  -- stopped it stays so, and names nothing.
  pub record MovesOn (state : E → DiskState) (js js' : List Merged) (w v : Merger M E G H) : Type 0 where
    pub first_is : v.first ≡ w.first
    pub second_is : StaysRead state w.second v.second
    pub later : (state w.second.disk.now).faults ≤ (state v.second.disk.now).faults
    pub adds : PassesAdd (needed_in state w js') (passes_of w) (passes_of v)
    pub stop_is : w.stop ≢ None → v.stop ≡ w.stop
    pub passes_are : w.stop ≢ None → passes_of v ≡ passes_of w
    pub stopped_by : w.stop ≡ None → (s : Stopped) → v.stop ≡ Some s → IsOneOf js s

  module _ {D : Type 0} where
    -- it may move the file with this pass, whose file is new
    pub record MayMoveFile (state : D → DiskState) (w : Merger M E G H) (j : Merged) (k : KeeperPass D) : Type 0 where
      pub above : w.first ≤ j.file
      pub new : IsNewFile state j k
      pub ready : IsReady k
      pub opening : HasSeenOpening k
      pub types_lock : (a : About (StoreFixed D)) → about k ≡ Some a → lock_of (pass_in (passes_of w).types) ≡ a.fixed.types
      pub words_lock : (a : About (StoreFixed D)) → about k ≡ Some a → lock_of (pass_in (passes_of w).words) ≡ a.fixed.words
      pub version_is : (a : About (StoreFixed D)) → about k ≡ Some a → version_of w ≡ a.fixed.header.version

    -- why a file stopped it
    pub record IsStopFor (state : D → DiskState) (state_second : E → DiskState) (w : Merger M E G H) (j : Merged)
        (k : KeeperPass D) (v : Merger M E G H) (j' : Merged) (k' : KeeperPass D) (places : List SegmentPlace) (s : Stopped)
        : Type 0 where
      pub file : s.file ≡ j.file
      pub cause : HasMoveCause state (version_of w) (old_of w) places (state_second w.second.disk.now).seen j'.messages k k'
          (books_of (passes_of v)) s.cause
      pub damaged : s.cause ≡ SecondDamaged → (bytes : List ℕ) (all : SoFar) → (state_second w.second.disk.now).seen ≡ Some bytes
          → All IsFairType (old_of w).types → All IsFairWord (old_of w).words
          → ¬ HoldRun (version_of w) (old_of w) bytes places nothing_so_far all
      pub fault : s.cause ≡ SecondFault → Rose (state_second w.second.disk.now).faults (state_second v.second.disk.now).faults

    -- It moved the file, and named what rows of it need that it reached. Where it was stopped thereby, this is why.
    pub record HasMoved (state : D → DiskState) (state_second : E → DiskState) (w : Merger M E G H) (j : Merged)
        (k : KeeperPass D) (v : Merger M E G H) (j' : Merged) (k' : KeeperPass D) : Type 0 where
      pub places : List SegmentPlace
      pub are : IsNonDecreasingBy file_at w.second.segments.now → places ≡ filter (is_of (j.file - w.first)) w.second.segments.now
      pub adds : PassesAdd (needed_in state_second w (j' ∷ [])) (passes_of w) (passes_of v)
      pub came : CameOver state (version_of w) (old_of w) places (state_second w.second.disk.now).seen (is_none v.stop) k k' j j'
      pub stopped : (s : Stopped) → v.stop ≡ Some s → IsStopFor state state_second w j k v j' k' places s

    -- what became of a file: nothing, where it was stopped before, and it stays so
    pub record DidFile (state : D → DiskState) (state_second : E → DiskState) (w : Merger M E G H) (j : Merged)
        (k : KeeperPass D) (v : Merger M E G H) (j' : Merged) (k' : KeeperPass D) : Type 0 where
      pub waited : w.stop ≢ None → (j' ≡ j) × (k' ≡ k) × (v.stop ≡ w.stop)
      pub moved : w.stop ≡ None → HasMoved state state_second w j k v j' k'
