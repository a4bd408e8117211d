-- Lanes: each searches segments of its own over its part of the disk, into a text.
use Rattle.std.specs.Prelude.{◌≡◌, ◌<◌, ◌≤◌, ◌+◌, ℕ, List, [], ◌++◌, length, Option, Result, Ok, IfOk, OnOk, OnErr, IsErrOf, All}
use Rattle.std.specs.List.{Contains, flat_map}
use Rattle.log_seams.specs.Disk.{DiskState, Rests}
use Rattle.log_seams.specs.Outside.{CountsOf}
use Rattle.log_seams.specs.Parts.{no_ranges}
use Rattle.sink_pieces.specs.Output.{Moves}
use Rattle.archive_open.specs.declared.files.FileEntry.{FileEntry}
use Rattle.archive_places.specs.declared.front.SegmentFront.{SegmentFront}
use Rattle.word_places.specs.Held.{HeldNames}
use Rattle.printed_lines.specs.Lines.{Placed, lines_of}
use Rattle.search_walk.specs.declared.refusal.SearchRefusal.{SearchRefusal}
use Rattle.search_meaning.specs.Scan.{AreFound, AreTried, Asked}
use Rattle.search_walk.specs.Held.{Named, OfSegments, named}
use Rattle.search_walk.specs.Opened.{NoFronts, OfFronts, ReadsFronts, ReadsOpened}
use Rattle.search_walk.specs.Ready.{Serves}
use Rattle.search_walk.specs.StepsScope.{Scope, scope}
use Rattle.search_walk.specs.Walked.{SearchedFronts, StoppedFronts}
use Rattle.search_engine.specs.declared.counts.Counts.{Counts}
use Rattle.search_engine.specs.declared.counts.LaneCounts.{LaneCounts}
use Rattle.search_engine.specs.Sofar.{Counted}
use Rattle.search_engine.specs.Waiting.{State, no_counts}

-- ---- what a lane's search left

-- the lines of what is found, the counts, how many segments were opened, and whether it went through
pub record LaneLeft : Type 0 where
  pub text : List ℕ
  pub counts : Counts
  pub opened : ℕ
  pub answer : Result (Unit {0}) SearchRefusal

abbrev pub left_of : List ℕ → Counts → ℕ → Result (Unit {0}) SearchRefusal → LaneLeft
left_of text counts opened answer = record { text = text; counts = counts; opened = opened; answer = answer }

-- the text is the lines of those of the messages that are found, and the counts are exact where they fit in 64 bits
pub record IsPrinted (n : Named) (q : Asked) (left : LaneLeft) (all : List Placed) : Type 0 where
  pub found : List Placed
  pub tried : List Placed
  pub are_found : AreFound n.version q all found
  pub are_tried : AreTried n.version q all tried
  pub text : left.text ≡ lines_of found
  pub matched : Counted 0 left.counts.matched (length found)
  pub expanded : Counted 0 left.counts.expanded (length tried)

-- the text is a front of those lines
abbrev pub IsFront : Named → Asked → List ℕ → List Placed → Type 0
IsFront n q text all = (found : List Placed) → AreFound n.version q all found
    → (rest : List ℕ) × (lines_of found ≡ text ++ rest)

-- the segments were searched into the text, and the search stopped among them
abbrev pub SearchedInto : Option (List ℕ) → Scope → List SegmentFront → LaneLeft → Type 0
SearchedInto seen s fronts left = SearchedFronts (IsPrinted s.names s.query left) seen s.names s.files s.query fronts
    0 left.opened left.opened

abbrev pub StoppedInto : Option (List ℕ) → Scope → List SegmentFront → List ℕ → Type 0
StoppedInto seen s fronts text = StoppedFronts (IsFront s.names s.query text) seen s.names s.files s.query fronts 0 0

-- a part of the disk was searched for what stands in these segments, with this text and this answer
pub record IsLaneSearch (old new : DiskState) (s : Scope) (fronts : List SegmentFront) (text : List ℕ)
    (r : Result LaneCounts SearchRefusal) : Type 0 where
  -- what stays
  pub rests : Rests old new
  pub reads : ReadsFronts old new s.names s.files s.query fronts
  -- by the answer
  pub done : IfOk r (λ told. SearchedInto old.seen s fronts (left_of text told.counts told.opened (Ok tt)))
  pub most : IfOk r (λ told. told.opened ≤ length fronts)
  pub stopped : OnErr r (StoppedInto old.seen s fronts text)
  -- causes
  pub damaged : IsErrOf r SearchRefusal.Damaged → NoFronts old.seen s.names s.files fronts
  pub counts : CountsOf SearchRefusal.DiskFault old.faults new.faults r

-- ---- a lane

-- its part of the disk, the words that were held when the search began, the files, what is asked, and the segments of a turn
pub record LaneView (P : Type 0) : Type 0 where
  pub part : P
  pub first : HeldNames
  pub files : List FileEntry
  pub query : Asked
  pub fronts : List SegmentFront
  pub left : LaneLeft

-- what a lane searches
abbrev pub scope_of : {P : Type 0} → (P → DiskState) → LaneView P → Scope
scope_of state l = scope (named (state l.part).seen l.first) l.query l.files

-- what is left of the segments of a lane
pub record IsLaneWorked {P : Type 0} (seen : Option (List ℕ)) (s : Scope) (l : LaneView P) : Type 0 where
  pub few : length l.fronts ≤ 65536
  pub done : OnOk l.left.answer (SearchedInto seen s l.fronts l.left)
  pub stopped : OnErr l.left.answer (StoppedInto seen s l.fronts l.left.text)
  pub damaged : IsErrOf l.left.answer SearchRefusal.Damaged → NoFronts seen s.names s.files l.fronts

-- a lane searched its segments
pub record IsLaneRun {P : Type 0} (state : P → DiskState) (old new : LaneView P) : Type 0 where
  pub kept : new ≡ record old { part = new.part; left = new.left }
  pub rests : Rests (state old.part) (state new.part)
  pub reads : ReadsFronts (state old.part) (state new.part) (scope_of state old).names old.files old.query old.fronts
  pub counts : CountsOf SearchRefusal.DiskFault (state old.part).faults (state new.part).faults new.left.answer
  pub sink : ¬ IsErrOf new.left.answer SearchRefusal.SinkFault
  pub worked : IsLaneWorked (state old.part).seen (scope_of state old) new

-- a lane that was given segments, and what it left is gone
abbrev pub given : {P : Type 0} → LaneView P → List SegmentFront → LaneView P
given l fronts = record l { fronts = fronts; left = left_of [] no_counts 0 l.left.answer }

-- a lane that may run: it was not stopped
abbrev pub IsWell : {P : Type 0} → LaneView P → Type 0
IsWell l = OnErr l.left.answer ⊥

-- the lanes go over words of these names
abbrev pub HaveNames : {P : Type 0} → (P → DiskState) → Named → List (LaneView P) → Type 0
HaveNames state n lanes = All (λ l. (scope_of state l).names ≡ n) lanes

-- the words that are held are those of each lane
pub record ServesLanes {P : Type 0} (state : P → DiskState) (held : HeldNames) (lanes : List (LaneView P)) : Type 0 where
  pub names : Named
  pub serves : Serves names held
  pub have : HaveNames state names lanes

-- the segments of lanes, one after the other
abbrev pub fronts_of : {P : Type 0} → List (LaneView P) → List SegmentFront
fronts_of lanes = flat_map (λ l. l.fronts) lanes

-- ---- lanes of a search

-- what a part of the disk has read, of these segments
abbrev pub PartReads : DiskState → Scope → List SegmentFront → DiskState → Type 0
PartReads disk s fronts part =
    OfFronts fronts (λ ps. OfSegments disk.seen s.names s.files ps
    (λ _ _. ReadsOpened s.names s.query ps (no_ranges disk.ranges) part.ranges))

-- a lane of a search of these segments
pub record IsLane {P : Type 0} (state : P → DiskState) (disk : DiskState) (s : Scope) (fronts : List SegmentFront)
    (l : LaneView P) : Type 0 where
  pub is : scope_of state l ≡ s
  pub seen : (state l.part).seen ≡ disk.seen
  pub reads : PartReads disk s fronts (state l.part)

-- it did not fail yet
pub record IsFresh {P : Type 0} (state : P → DiskState) (l : LaneView P) : Type 0 where
  pub well : IsWell l
  pub faults : (state l.part).faults ≡ 0

-- a fault of the disk is the answer only if a part has one, and no part has one at any other answer
pub record FaultsOf {P T : Type 0} (state : P → DiskState) (lanes : List (LaneView P)) (r : Result T SearchRefusal) : Type 0 where
  pub some : IsErrOf r SearchRefusal.DiskFault → (l : LaneView P) × Contains lanes l × (0 < (state l.part).faults)
  pub none : ¬ IsErrOf r SearchRefusal.DiskFault → All (λ l. (state l.part).faults ≡ 0) lanes

-- ---- what lanes left is sent on

-- the text was gathered, or went to the sink, and the counts were added
pub record TakesLeft (text : List ℕ) (counts : Counts) (old new : State) : Type 0 where
  pub moves : Moves old.written new.written (old.pending.gathered ++ text) new.pending.gathered
  pub pages : new.pending.pages ≡ old.pending.pages
  pub matched : Counted old.pending.counts.matched new.pending.counts.matched counts.matched
  pub expanded : Counted old.pending.counts.expanded new.pending.counts.expanded counts.expanded
  pub ticks : new.ticks ≡ old.ticks + counts.expanded

-- a turn took the first of the segments, of which so many were opened, and the later ones are left
pub record IsTurn (fronts left : List SegmentFront) (count : ℕ) (Went : List SegmentFront → Type 0) : Type 0 where
  pub chunk : List SegmentFront
  pub parts : fronts ≡ chunk ++ left
  pub less : length left < length fronts
  pub most : count ≤ length chunk
  pub went : Went chunk
