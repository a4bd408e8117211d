-- How an ingest begins by an order, and what its jobs then are.
use Rattle.std.specs.Prelude.{◌≡◌, ℕ, ◌<◌, ◌≤◌, List, length, is_some, Option}
use Rattle.log_seams.specs.declared.disk.Disk.{Ghosts as DiskGhosts}
use Rattle.turn_lock.specs.declared.grows.Grows.{Ghosts}
use Rattle.dict_core.specs.declared.grows.TheConstants.{WORDS_FIRST}
use Rattle.ingest_fork.specs.declared.works.TheConstants.{MAX_WORKERS}
use Rattle.dict_core.specs.Books.{BookState}
use Rattle.disk_journal.specs.declared.journal.Journal.{Journal}
use Rattle.disk_journal.specs.Journal.{state_of}
use Rattle.archive_meaning.specs.Spelled.{types_of}
use Rattle.ingest_meaning.specs.WordsIn.{words_of}
use Rattle.disk_seal.specs.Opening.{MayOpen}
use Rattle.ingest_fork.specs.Works.{AllReady}
use Rattle.ingest_workers.specs.declared.ingesting.Crew.{Crew}
use Rattle.ingest_workers.specs.declared.ingesting.Order.{Order}
use Rattle.ingest_workers.specs.declared.ingesting.Split.{Split}
use Rattle.ingest_workers.specs.declared.job.Job.{Job}
use Rattle.ingest_workers.specs.StartedWorkers.{BookMaker}
use Rattle.ingest_workers.specs.Ingested.{AreNew, HasBook, HasEndedBooks, HasIngested, HaveCauses, HaveCausesIn, IsAsItWas, OpensBook, books_at, told_entries}
use Rattle.ingest_workers.specs.InTurn.{AreFullInTurn, WereFilled}

-- by 1 to 64 workers, in segments of 1 to 65,536 rows
pub record IsSplit (s : Split) : Type 0 where
  pub workers : (1 ≤ s.workers) × (s.workers ≤ MAX_WORKERS)
  pub rows : (1 ≤ s.rows) × (s.rows ≤ 65536)

module _ {O : Type 0} where
  -- there is an opener for each worker, and none of them has a source open
  pub record HasOpeners (idle : O → Type 0) (crew : Crew O) : Type 0 where
    pub counted : length crew.openers.items ≡ crew.order.workers
    pub closed : AllReady idle crew.openers.items

module _ {S D : Type 0} {d : DiskGhosts D} where
  -- The jobs may be done over the journal as ordered: by a worker or more, in segments of 1 to 65,536 rows, in the version of its
  -- header. The jobs' files are new in it, and consecutive from the order's first one on.
  pub record MayBegin (order : Order) (before : Journal D d) (js : List (Job S)) : Type 0 where
    pub workers : (0 < order.workers) × (order.workers ≤ MAX_WORKERS)
    pub rows : (1 ≤ order.plan.rows) × (order.plan.rows ≤ 65536)
    pub version : order.plan.version ≡ before.header.version
    pub journal : MayOpen (state_of before)
    pub jobs : AreNew order.first (state_of before) js
    pub few : (order.first < 4294967296) × (length js ≤ 4294967296)

  -- none of the jobs was begun
  pub record NoneBegun (before after : Journal D d) (js js' : List (Job S)) : Type 0 where
    pub journal : IsAsItWas before after
    pub jobs : js' ≡ js

module _ {D : Type 0} {d : DiskGhosts D} (order : Order) (before : Journal D d) where
  -- the book has the journal's log types, or its words, as many as the order says
  abbrev pub HoldsTypes : BookState → Type 0
  HoldsTypes book = HasBook (is_some (state_of before).disk.seen) before.header.types_limit
      (types_of (told_entries (state_of before)))
      order.types_saved book

  abbrev pub HoldsWords : BookState → Type 0
  HoldsWords book = HasBook (is_some (state_of before).disk.seen) before.header.words_limit
      (words_of (told_entries (state_of before)))
      order.words_saved book

  module _ {G : Ghosts BookState (List ℕ) ℕ} where
    -- the maker is that of a lock just made of such a book
    abbrev pub OpensTypes : BookMaker G → Type 0
    OpensTypes m = OpensBook 0 (is_some (state_of before).disk.seen) before.header.types_limit
        (types_of (told_entries (state_of before)))
        order.types_saved m

    abbrev pub OpensWords : BookMaker G → Type 0
    OpensWords m = OpensBook WORDS_FIRST (is_some (state_of before).disk.seen) before.header.words_limit
        (words_of (told_entries (state_of before))) order.words_saved m

module _ {S D : Type 0} {d : DiskGhosts D} (left name : S → Option (List ℕ)) (faults : S → ℕ) (order : Order) where
  -- All jobs were done: what the journal has now, why files are not whole, and what one worker tells besides of a full
  -- dictionary.
  pub record WereDone (before after : Journal D d) (js js' : List (Job S)) : Type 0 where
    pub done : HasIngested left order.plan js js' before after
    pub causes : HaveCauses left name faults order.plan before after js js'
    pub in_turn : order.workers ≡ 1 → AreFullInTurn left order.plan before js js'

  module _ {G : Ghosts BookState (List ℕ) ℕ} where
    -- the same, by what the makers of the two books know at the end
    pub record WereDoneOver (types types' words words' : BookMaker G) (before after : Journal D d)
        (js js' : List (Job S)) : Type 0 where
      pub done : HasEndedBooks left order.plan js js' before after types types' words words'
      pub causes : HaveCausesIn (books_at types' words') left name faults order.plan before after js js'
      pub in_turn : order.workers ≡ 1 → WereFilled left order.plan types' words' js js'
