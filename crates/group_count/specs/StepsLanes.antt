-- Lanes: each counts the messages of segments of its own over its part of the disk, in a table of its own.
use Rattle.std.specs.Prelude.{◌≡◌, ◌<◌, ◌+◌, ◌^◌, ℕ, List, ◌++◌, length, Option, Result, IfOk, IsErrOf, All}
use Rattle.std.specs.List.{Contains, flat_map}
use Rattle.log_seams.specs.Disk.{DiskState, Rests}
use Rattle.log_seams.specs.Outside.{CountsOf}
use Rattle.log_seams.specs.Parts.{IsPart, no_ranges}
use Rattle.column_store.specs.declared.row.Row.{Row}
use Rattle.archive_open.specs.declared.files.FileEntry.{FileEntry}
use Rattle.archive_open.specs.declared.segments.SegmentPlace.{SegmentPlace}
use Rattle.archive_places.specs.declared.front.SegmentFront.{SegmentFront}
use Rattle.word_places.specs.Held.{HeldNames}
use Rattle.printed_lines.specs.Lines.{Placed}
use Rattle.search_meaning.specs.Scan.{Asked}
use Rattle.search_meaning.specs.Opened.{AreOpened}
use Rattle.search_walk.specs.declared.refusal.SearchRefusal.{SearchRefusal}
use Rattle.search_walk.specs.Held.{OfSegments, named}
use Rattle.search_walk.specs.Opened.{NoFronts, OfFronts, ReadsFronts, ReadsOpened}
use Rattle.search_walk.specs.StepsScope.{Scope, scope}
use Rattle.search_walk.specs.Walked.{SearchedFronts}
use Rattle.group_count.specs.declared.counts.Counts.{Counts}
use Rattle.group_count.specs.declared.counts.LaneSums.{LaneSums}
use Rattle.group_count.specs.declared.counts.Told.{Told}
use Rattle.group_count.specs.StepsCounted.{Counted, IsLike, Passes, Sofar, sofar}

-- ---- what a lane has counted

-- nothing was counted but what the table has
abbrev pub nothing_in : {T : Type 0} → T → Sofar T
nothing_in table = record { table = table; matched = 0; expanded = 0; ticks = 0 }

-- the messages of these segments were counted in a table that had nothing
pub record IsCounted {T : Type 0} (counted : T → ℕ → List Row → Type 0) (seen : Option (List ℕ)) (s : Scope)
    (fronts : List SegmentFront) (like : T) (told : Told T) : Type 0 where
  pub start : T
  pub is_like : IsLike counted like start
  pub later : ℕ
  pub ticks : ℕ
  pub searched : SearchedFronts (λ all. Passes counted s.names s.query all (nothing_in start) (sofar told.counts ticks))
      seen s.names s.files s.query fronts 0 later told.opened

-- a part of the disk was gone over for the messages of these segments, with this answer
pub record IsLaneCount {T : Type 0} (counted : T → ℕ → List Row → Type 0) (old new : DiskState) (s : Scope)
    (fronts : List SegmentFront) (like : T) (r : Result (Told T) SearchRefusal) : Type 0 where
  -- what stays
  pub rests : Rests old new
  pub reads : ReadsFronts old new s.names s.files s.query fronts
  -- by the answer
  pub done : IfOk r (IsCounted counted old.seen s fronts like)
  -- causes
  pub damaged : IsErrOf r SearchRefusal.Damaged → NoFronts old.seen s.names s.files fronts
  pub counts : CountsOf SearchRefusal.DiskFault old.faults new.faults r
  pub sink : ¬ IsErrOf r SearchRefusal.SinkFault

-- ---- a lane

-- its part of the disk, the words that were held when the lanes began, the files, what is asked, its segments, a table in which
-- nothing was counted, and what it has counted
pub record LaneView (P T : Type 0) : Type 0 where
  pub part : P
  pub first : HeldNames
  pub files : List FileEntry
  pub query : Asked
  pub fronts : List SegmentFront
  pub like : T
  pub answer : Result (Told T) SearchRefusal

-- what a lane goes over
abbrev pub scope_of : {P T : Type 0} → (P → DiskState) → LaneView P T → Scope
scope_of state l = scope (named (state l.part).seen l.first) l.query l.files

-- a lane has counted
pub record IsLaneRun {P T : Type 0} (state : P → DiskState) (counted : T → ℕ → List Row → Type 0)
    (old new : LaneView P T) : Type 0 where
  pub kept : new ≡ record old { part = new.part; answer = new.answer }
  pub ran : IsLaneCount counted (state old.part) (state new.part) (scope_of state old) old.fronts old.like new.answer

-- the segments of lanes, one after the other
abbrev pub fronts_of : {P T : Type 0} → List (LaneView P T) → List SegmentFront
fronts_of lanes = flat_map (λ l. l.fronts) lanes

-- a lane that has not begun, over a part of the disk, beside a table in which may be something
pub record IsNewLane {P T : Type 0} (state : P → DiskState) (counted : T → ℕ → List Row → Type 0) (disk : DiskState) (s : Scope)
    (table : T) (l : LaneView P T) : Type 0 where
  pub is : scope_of state l ≡ s
  pub part : IsPart disk (state l.part)
  pub like : IsLike counted table l.like

-- a lane whose part of the disk has read nothing but of these segments
pub record IsLane {P T : Type 0} (state : P → DiskState) (disk : DiskState) (s : Scope) (fronts : List SegmentFront)
    (l : LaneView P T) : Type 0 where
  pub reads : OfFronts fronts (λ ps. OfSegments disk.seen s.names s.files ps
      (λ _ _. ReadsOpened s.names s.query ps (no_ranges disk.ranges) (state l.part).ranges))

-- a lane has counted, beside a table in which may be something
pub record IsWorked {P T : Type 0} (counted : T → ℕ → List Row → Type 0) (s : Scope) (table : T) (l : LaneView P T)
    : Type 0 where
  pub like : IsLike counted table l.like
  pub done : IfOk l.answer (IsCounted counted s.names.told s l.fronts l.like)
  pub damaged : IsErrOf l.answer SearchRefusal.Damaged → NoFronts s.names.told s.names s.files l.fronts

-- a fault of the disk is the answer only if a part has one, and no part has one at any other answer
pub record FaultsOf {P T A : Type 0} (state : P → DiskState) (lanes : List (LaneView P T)) (r : Result A SearchRefusal)
    : Type 0 where
  pub some : IsErrOf r SearchRefusal.DiskFault → (l : LaneView P T) × Contains lanes l × (0 < (state l.part).faults)
  pub none : ¬ IsErrOf r SearchRefusal.DiskFault → All (λ l. (state l.part).faults ≡ 0) lanes

-- ---- what lanes have counted, put together

-- what a lane has counted was added
pub record Joins {T : Type 0} (counted : T → ℕ → List Row → Type 0) (told : Told T) (a : Counts T) (j : LaneSums) (b : Counts T)
    (k : LaneSums) : Type 0 where
  pub table : (known : ℕ) (before rows : List Row) → counted a.table known before → counted told.counts.table known rows
      → counted b.table known (before ++ rows)
  pub matched : Counted a.matched b.matched told.counts.matched
  pub expanded : Counted a.expanded b.expanded told.counts.expanded
  pub opened : Counted j.opened k.opened told.opened
  pub more : Counted j.expanded k.expanded told.counts.expanded

-- the messages of segments were counted, and these segments opened, unless they are very many
pub record Went {T : Type 0} (counted : T → ℕ → List Row → Type 0) (s : Scope) (a b : Counts T) (sums : LaneSums)
    (ps : List SegmentPlace) (all : List Placed) : Type 0 where
  pub opened : List SegmentPlace
  pub are_opened : AreOpened s.names.types s.names.words s.query ps opened
  pub many : Counted 0 sums.opened (length opened)
  pub passes : length all < 2 ^ 64 → (ticks : ℕ)
      → Passes counted s.names s.query all (sofar a ticks) (sofar b (ticks + sums.expanded))

abbrev pub WentOver : {T : Type 0} → (T → ℕ → List Row → Type 0) → Scope → Counts T → Counts T → LaneSums → List SegmentFront
    → Type 0
WentOver counted s a b sums fronts =
    OfFronts fronts (λ ps. OfSegments s.names.told s.names s.files ps (λ _ all. Went counted s a b sums ps all))
