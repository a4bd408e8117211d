-- A worker with what opens the sources of its jobs, and laws of it, which its trait asks for.
use Rattle.std.specs.Prelude.{◌≡◌, ℕ, true, List, length, map, Option, Some, slice_get}
use Rattle.log_seams.specs.Disk.{DiskState}
use Rattle.ingest_fork.specs.Works.{ArePieces}
use Rattle.disk_seal.specs.Fixed.{KeeperPass}
use Rattle.ingest_workers.specs.declared.job.Job.{Job}
use Rattle.ingest_workers.specs.declared.open_worker.OpenWorker.{OpenWorker}
use Rattle.ingest_workers.specs.declared.worker.Worker.{Worker}
use Rattle.ingest_workers.specs.Worker.{DidJob, DidOnly, IsIdle, MayDo}
use Rattle.ingest_workers.specs.WorkerLaws.{fits_on, goes_on, rests, wider}

module _ {O : Type 0} where
  -- the workers alone, each at its place
  abbrev pub workers_in : List (OpenWorker O) → List Worker
  workers_in ws = map (λ w. w.worker) ws

  -- what opens for them
  abbrev pub openers_in : List (OpenWorker O) → List O
  openers_in ws = map (λ w. w.opener) ws

module _ {O : Type 0} (idle : O → Type 0) where
  -- it is between two jobs, and no source is open
  abbrev pub IsClosed : OpenWorker O → Type 0
  IsClosed w = IsIdle w.worker × idle w.opener

  -- Each of the openers opened and closed sources, and nothing else became of it. No source is open.
  pub record HaveGone (goes : O → O → Type 0) (os os' : List O) : Type 0 where
    pub counted : length os' ≡ length os
    pub each : (i : ℕ) (o : O) → slice_get os i ≡ Some o → (p : O) × (slice_get os' i ≡ Some p) × idle p × goes o p

module _ {T O : Type 0} (knows : O → T → Type 0) where
  -- of a job that was read, the opener knows of the thing that the job has back
  abbrev pub KnowsOf : O → Job T → Job T → Type 0
  KnowsOf o j j' = j.is_open ≡ true → (t : T) → j'.source ≡ Some t → knows o t

  -- so of each of the jobs
  abbrev pub KnowsEach : O → List (Job T) → List (Job T) → Type 0
  KnowsEach o js js' = (i : ℕ) (j j' : Job T) → slice_get js i ≡ Some j → slice_get js' i ≡ Some j' → KnowsOf o j j'

  -- one of the openers knows of it
  pub record OneKnows (os : List O) (j j' : Job T) : Type 0 where
    pub place : ℕ
    pub opener : O
    pub is : slice_get os place ≡ Some opener
    pub known : KnowsOf opener j j'

  -- of each of the jobs one of the openers knows
  abbrev pub AreKnown : List O → List (Job T) → List (Job T) → Type 0
  AreKnown os js js' = (i : ℕ) (j j' : Job T) → slice_get js i ≡ Some j → slice_get js' i ≡ Some j' → OneKnows os j j'

module _ {T O : Type 0} (idle : O → Type 0) (goes : O → O → Type 0) (knows : O → T → Type 0) where
  -- what became of openers that served the workers of these jobs
  pub record HaveServed (os os' : List O) (js js' : List (Job T)) : Type 0 where
    pub gone : HaveGone idle goes os os'
    pub known : AreKnown knows os' js js'

module _ {T O : Type 0} (left : T → Option (List ℕ)) (goes : O → O → Type 0) where
  -- it did nothing but some of these jobs, which became those, and the opener opened and closed sources
  pub record OpenDidOnly (js js' : List (Job T)) (w v : OpenWorker O) : Type 0 where
    pub worker : DidOnly left js js' w.worker v.worker
    pub opener : goes w.opener v.opener

  pub open_rests : (idle : O → Type 0) → ((o : O) → goes o o) → (js js' : List (Job T)) (w : OpenWorker O) → IsClosed idle w
      → OpenDidOnly js js' w w
  open_rests idle stays js js' w ready = record { worker = rests left js js' w.worker ready.0; opener = stays w.opener }

  pub open_goes_on : ((a b c : O) → goes a b → goes b c → goes a c) → (js js' : List (Job T)) (a b c : OpenWorker O)
      → OpenDidOnly js js' a b → OpenDidOnly js js' b c → OpenDidOnly js js' a c
  open_goes_on then js js' a b c one two = record {
    worker = goes_on left js js' a.worker b.worker c.worker one.worker two.worker;
    opener = then a.opener b.opener c.opener one.opener two.opener;
  }

  pub open_wider : (js js' piece piece' : List (Job T)) (a b : OpenWorker O) → ArePieces js js' piece piece'
      → OpenDidOnly piece piece' a b → OpenDidOnly js js' a b
  open_wider js js' piece piece' a b are one = record {
    worker = wider left js js' piece piece' a.worker b.worker are one.worker;
    opener = one.opener;
  }

module _ {T O D : Type 0} (state : D → DiskState) (left name : T → Option (List ℕ)) (faults : T → ℕ)
    (knows : O → T → Type 0) where
  -- what became of a job that the worker did
  pub record OpenDidJob (w : OpenWorker O) (j : Job T) (k : KeeperPass D) (v : OpenWorker O) (j' : Job T)
      (m : KeeperPass D) : Type 0 where
    pub job : DidJob state left name faults w.worker j k v.worker j' m
    pub known : KnowsOf knows v.opener j j'

module _ {T O D : Type 0} (state : D → DiskState) (left : T → Option (List ℕ)) (goes : O → O → Type 0) where
  pub open_fits_on : (js js' : List (Job T)) (a b : OpenWorker O) (j : Job T) (k : KeeperPass D)
      → OpenDidOnly left goes js js' a b → MayDo state a.worker j k → MayDo state b.worker j k
  open_fits_on js js' a b j k one may = fits_on state left js js' a.worker b.worker j k one.worker may
