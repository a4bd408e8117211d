-- What a worker is to a contract: its passes of the two books, what they may add, and what they added.
use Rattle.std.specs.Prelude.{◌≡◌, ℕ, ◌<◌, ◌≤◌, List, [], Option, None, Some, IsSome, slice_get}
use Rattle.log_seams.specs.Disk.{DiskState}
use Rattle.turn_lock.specs.declared.board.About.{About}
use Rattle.turn_lock.specs.Words.{about, lock_of, number_of, own_list, IsReady}
use Rattle.dict_core.specs.declared.grows.TheConstants.{WORDS_FIRST}
use Rattle.dict_lock.specs.Shared.{BookPass}
use Rattle.dict_lock.specs.Cached.{pass_in}
use Rattle.row_codec.specs.Messages.{IsTypeOf, IsWordOf}
use Rattle.disk_seal.specs.declared.fixed.StoreFixed.{StoreFixed}
use Rattle.disk_seal.specs.Fixed.{KeeperPass}
use Rattle.disk_seal.specs.Prepare.{HasSeenOpening}
use Rattle.ingest_workers.specs.declared.job.Job.{Job}
use Rattle.ingest_workers.specs.declared.worker.BookPasses.{BookPasses}
use Rattle.ingest_workers.specs.declared.worker.Plan.{Plan}
use Rattle.ingest_workers.specs.declared.worker.Worker.{Worker}
use Rattle.ingest_workers.specs.Outcome.{nothing_done}
use Rattle.ingest_workers.specs.Journal.{HasSoFar}
use Rattle.ingest_workers.specs.Naming.{AddsOnly}
use Rattle.ingest_workers.specs.Full.{Books, books_by}
use Rattle.ingest_workers.specs.JobDone.{IsGivenBy, IsDone}
use Rattle.ingest_workers.specs.Met.{WasMet, WasMetBy}

pub no_passes : IsSome {T = BookPasses} None → ⊥
no_passes none = cc (none)

abbrev pub passes_in : (o : Option BookPasses) → IsSome o → BookPasses
passes_in None none = absurd (no_passes none)
passes_in (Some b) some = b

-- the passes of a worker between two jobs
abbrev pub passes_of : Worker → BookPasses
passes_of w = passes_in w.passes w.full

abbrev pub types_of : Worker → BookPass
types_of w = pass_in (passes_of w).types

abbrev pub words_of : Worker → BookPass
words_of w = pass_in (passes_of w).words

-- what its passes know of the two books
abbrev pub books_in : Worker → Books
books_in w = books_by (types_of w) (words_of w)

-- both passes are between two turns, one may add log types and one words
pub record MayAddTexts (b : BookPasses) : Type 0 where
  pub types_ready : IsReady (pass_in b.types)
  pub words_ready : IsReady (pass_in b.words)
  pub adds_types : number_of (pass_in b.types) < WORDS_FIRST
  pub adds_words : WORDS_FIRST < number_of (pass_in b.words)

-- the worker is between two jobs
abbrev pub IsIdle : Worker → Type 0
IsIdle w = MayAddTexts (passes_of w)

-- what both passes added meanwhile are texts of the encodings of these messages
pub record NamesOnly (version : ℕ) (P : List ℕ → Type 0) (b c : BookPasses) : Type 0 where
  pub types : AddsOnly (λ t. (m : List ℕ) × P m × IsTypeOf version m t) (pass_in b.types) (pass_in c.types)
  pub words : AddsOnly (λ t. (m : List ℕ) × P m × IsWordOf version m t) (pass_in b.words) (pass_in c.words)

module _ {S : Type 0} (left : S → Option (List ℕ)) where
  -- the message is one of a job's source
  abbrev pub IsGiven : ℕ → List (Job S) → List ℕ → Type 0
  IsGiven version js m = (i : ℕ) × (j : Job S) × (slice_get js i ≡ Some j) × IsGivenBy left version j m

  -- the worker did nothing but some of these jobs, which became those
  pub record DidOnly (js js' : List (Job S)) (w v : Worker) : Type 0 where
    pub plan : v.plan ≡ w.plan
    pub names : NamesOnly w.plan.version (WasMet left w.plan.rows w.plan.version js js') (passes_of w) (passes_of v)

module _ {D : Type 0} where
  -- the passes are of the locks of the store that the keeper is of, and the version is its header's
  pub record GoWith (plan : Plan) (b : BookPasses) (k : KeeperPass D) : Type 0 where
    pub types : (a : About (StoreFixed D)) → about k ≡ Some a → lock_of (pass_in b.types) ≡ a.fixed.types
    pub words : (a : About (StoreFixed D)) → about k ≡ Some a → lock_of (pass_in b.words) ≡ a.fixed.words
    pub version : (a : About (StoreFixed D)) → about k ≡ Some a → plan.version ≡ a.fixed.header.version

module _ {S D : Type 0} (state : D → DiskState) where
  -- the job is new, and so is its file, which the keeper is of
  pub record IsNewJob (j : Job S) (k : KeeperPass D) : Type 0 where
    pub outcome : j.outcome ≡ nothing_done
    pub file : j.file ≡ number_of k
    pub ready : IsReady k
    pub opening : HasSeenOpening k
    pub own : own_list k ≡ []
    pub so_far : HasSoFar state k []

  -- the worker may do the job with this keeper
  pub record MayDo (w : Worker) (j : Job S) (k : KeeperPass D) : Type 0 where
    pub least : 1 ≤ w.plan.rows
    pub most : w.plan.rows ≤ 65536
    pub version : (1 ≤ w.plan.version) × (w.plan.version ≤ 3)
    pub fits : GoWith w.plan (passes_of w) k
    pub new : IsNewJob j k

  -- What became of a job that the worker did, which was `v` then: it is told by what its passes know of the books, and what they
  -- added meanwhile are texts of messages that the job met.
  pub record DidJob (left name : S → Option (List ℕ)) (faults : S → ℕ) (w : Worker) (j : Job S) (k : KeeperPass D) (v : Worker)
      (j' : Job S) (m : KeeperPass D) : Type 0 where
    pub done : IsDone state left name faults w.plan.rows w.plan.version (books_in v) j k j' m
    pub names : NamesOnly w.plan.version (WasMetBy left w.plan.rows w.plan.version j j'.outcome) (passes_of w) (passes_of v)
