-- How many turns a worker takes with the two books.
use Rattle.std.specs.Prelude.{◌≡◌, ◌⊎◌, ℕ, ◌+◌, ◌≤◌, Bool, List, ◌++◌, length, Option, None, Some, Result, Ok, Err, All}
use Rattle.std.specs.List.{Contains}
use mathlib.Core.List.{IsPrefix}
use Rattle.log_seams.specs.Disk.{DiskState}
use Rattle.turn_lock.specs.Words.{about, own_list}
use Rattle.plain_list.specs.Texts.{AreDistinct, IsNew}
use Rattle.row_codec.specs.declared.namer.NameRefusal.{NameRefusal}
use Rattle.row_codec.specs.declared.namer.Which.{Which}
use Rattle.row_codec.specs.Messages.{IsTypeOf, IsWordOf}
use Rattle.row_codec.specs.Naming.{AsksFor}
use Rattle.disk_seal.specs.declared.namer.LockNamer.{LockNamer}
use Rattle.disk_seal.specs.Fixed.{KeeperPass}
use Rattle.disk_seal.specs.Naming.{Side, types_side, words_side}
use Rattle.ingest_workers.specs.declared.outcome.Outcome.{Outcome}
use Rattle.ingest_workers.specs.declared.file_end.FileEnd.{FileEnd}
use Rattle.ingest_workers.specs.declared.file_end.FileEnd.TheVariants.{Part, Lost}
use Rattle.ingest_workers.specs.Done.{HasDone}
use Rattle.ingest_meaning.specs.Given.{AreFirstOf}
use Rattle.ingest_workers.specs.Journal.{WhereTold, sealed_by}
use Rattle.ingest_workers.specs.Outcome.{met_by}
use Rattle.ingest_workers.specs.FileEnd.{stop_by}

-- why no further message is taken, where none is
abbrev pub stop_in : {T : Type 0} → Result T FileEnd → Option FileEnd
stop_in (Ok x) = None
stop_in (Err stop) = Some stop

-- ---- one message

module _ {N : Type 0} (naming : Which → List (List ℕ) → Option NameRefusal → N → N → Type 0) (version : ℕ) (line : List ℕ) where
  -- its texts were named, and a refusal is why it was not taken
  pub record HasAsked (stop : Option FileEnd) (old new : N) : Type 0 where
    pub refusal : Option NameRefusal
    pub asked : AsksFor naming version line refusal old new
    pub told : (r : NameRefusal) → refusal ≡ Some r → stop ≡ Some (stop_by r)

  -- that, or nothing was done with the namer
  abbrev pub MayAsk : Option FileEnd → N → N → Type 0
  MayAsk stop old new = (new ≡ old) ⊎ HasAsked stop old new

-- ---- several

-- how many segments a pass has added
abbrev pub sealed_in : {D : Type 0} → KeeperPass D → ℕ
sealed_in p = length (sealed_by (own_list p))

-- At the end of a file one turn is to spare where something was left to seal.
abbrev pub spare_of : Option FileEnd → ℕ
spare_of None = 1
spare_of (Some (Part cause)) = 1
spare_of (Some (Lost cause)) = 0

module _ {D : Type 0} (state : D → DiskState) where
  -- the turns rose by no more than so many texts, the segments that the pass has added meanwhile, and so many to spare
  abbrev pub FewTurns : KeeperPass D → KeeperPass D → Side → Side → ℕ → ℕ → Type 0
  FewTurns p q a b texts spare = WhereTold state p (λ h. b.turns + sealed_in p ≤ a.turns + texts + sealed_in q + spare)

  -- Without a stop there is none to spare. Where the stop leaves something to seal there may be one, and then such a text is not
  -- held; else there may be one.
  abbrev pub TurnsBy : (List ℕ → Type 0) → Option FileEnd → KeeperPass D → KeeperPass D → Side → Side → ℕ → Type 0
  TurnsBy P None p q a b texts = FewTurns p q a b texts 0
  TurnsBy P (Some (Part cause)) p q a b texts =
      FewTurns p q a b texts 0 ⊎ (FewTurns p q a b texts 1 × ((t : List ℕ) × P t × IsNew b.held t))
  TurnsBy P (Some (Lost cause)) p q a b texts = FewTurns p q a b texts 1

  -- the cache holds such texts more, behind the others, for so many turns
  pub record Learns (P : List ℕ → Type 0) (stop : Option FileEnd) (p q : KeeperPass D) (a b : Side) : Type 0 where
    pub still : about q ≡ about p
    pub more : List (List ℕ)
    pub behind : b.held ≡ a.held ++ more
    pub each : All P more
    pub took : TurnsBy P stop p q a b (length more)

  -- no text was named
  pub record Ends (spare : ℕ) (p q : KeeperPass D) (a b : Side) : Type 0 where
    pub same : b.held ≡ a.held
    pub took : FewTurns p q a b 0 spare

  -- The turns with a book rose by no more than the count of some distinct texts of this kind, none of which the cache held, the
  -- segments that the pass has added meanwhile, and one.
  pub record TakesFew (P : List ℕ → Type 0) (p q : KeeperPass D) (a b : Side) : Type 0 where
    pub named : List (List ℕ)
    pub each : All P named
    pub distinct : AreDistinct named
    pub not_held : All (IsNew a.held) named
    pub few : FewTurns p q a b (length named) 1

-- ---- both books

-- a log type of such a message, and a word of one
abbrev pub type_by : (List ℕ → Type 0) → ℕ → List ℕ → Type 0
type_by P version t = (x : List ℕ) × P x × IsTypeOf version x t

abbrev pub word_by : (List ℕ → Type 0) → ℕ → List ℕ → Type 0
word_by P version t = (x : List ℕ) × P x × IsWordOf version x t

module _ {D R A B C : Type 0} (state : D → DiskState) where
  -- the caches hold more texts of such messages
  pub record LearnBoth (P : List ℕ → Type 0) (stop : Option FileEnd) (p q : KeeperPass D) (m n : LockNamer R A B C) : Type 0 where
    pub types : Learns state (type_by P m.version) stop p q (types_side m) (types_side n)
    pub words : Learns state (word_by P m.version) stop p q (words_side m) (words_side n)

  pub record EndBoth (spare : ℕ) (p q : KeeperPass D) (m n : LockNamer R A B C) : Type 0 where
    pub types : Ends state spare p q (types_side m) (types_side n)
    pub words : Ends state spare p q (words_side m) (words_side n)

  pub record TakeFew (P : List ℕ → Type 0) (p q : KeeperPass D) (m n : LockNamer R A B C) : Type 0 where
    pub types : TakesFew state (type_by P m.version) p q (types_side m) (types_side n)
    pub words : TakesFew state (word_by P m.version) p q (words_side m) (words_side n)

module _ {R A B C : Type 0} where
  -- no text was named, and one turn was taken with each book at most
  pub record OneTurn (m n : LockNamer R A B C) : Type 0 where
    pub types_held : (types_side n).held ≡ (types_side m).held
    pub words_held : (words_side n).held ≡ (words_side m).held
    pub types : (types_side n).turns ≤ (types_side m).turns + 1
    pub words : (words_side n).turns ≤ (words_side m).turns + 1

-- ---- a job

module _ {D : Type 0} where
  -- The messages that a job met, of which this came, are the first ones of these bytes. They begin with those that the pass has
  -- added, as many as the outcome counts; behind them are only those that were met and not sealed.
  pub record HasMet (state : D → DiskState) (rows version : ℕ) (bytes : Option (List ℕ)) (o : Outcome) (start p : KeeperPass D)
      (met : List (List ℕ)) : Type 0 where
    pub first : AreFirstOf version bytes met
    pub covered : List (List ℕ)
    pub ended : Bool
    pub done : HasDone state rows start p covered o.whole ended
    pub count : o.messages ≡ length covered
    pub front : IsPrefix covered met
    pub few : length met ≤ met_by rows o

module _ {D R A B C : Type 0} where
  -- The job, of which this came, took few turns with the two books, and these for texts of the messages that it met alone.
  pub record TakesFewOf (state : D → DiskState) (rows : ℕ) (bytes : Option (List ℕ)) (o : Outcome) (p q : KeeperPass D)
      (m n : LockNamer R A B C) : Type 0 where
    pub met : List (List ℕ)
    pub are : HasMet state rows m.version bytes o p q met
    pub few : TakeFew state (Contains met) p q m n
