-- When a dictionary is full with one worker, which does the jobs in their order.
use Rattle.std.specs.Prelude.{◌≡◌, ◌⊎◌, ℕ, ◌+◌, ◌<◌, List, is_some, take, Option, Some, slice_get}
use Rattle.std.specs.List.{Contains}
use Rattle.log_seams.specs.declared.disk.Disk.{Ghosts as DiskGhosts}
use Rattle.turn_lock.specs.declared.grows.Grows.{Ghosts}
use Rattle.turn_lock.specs.History.{Has, StandsIn}
use Rattle.turn_lock.specs.Words.{ended_by, own_by}
use Rattle.dict_core.specs.Books.{BookState}
use Rattle.row_codec.specs.declared.namer.Which.{Which}
use Rattle.row_codec.specs.declared.namer.Which.TheVariants.{Types, Words}
use Rattle.disk_journal.specs.declared.journal.Journal.{Journal}
use Rattle.disk_journal.specs.Journal.{state_of}
use Rattle.disk_seal.specs.Told.{IfTold}
use Rattle.ingest_workers.specs.declared.job.Job.{Job}
use Rattle.ingest_workers.specs.declared.outcome.Cause.TheVariants.{Full}
use Rattle.ingest_workers.specs.declared.outcome.Outcome.{Outcome}
use Rattle.ingest_workers.specs.declared.worker.Plan.{Plan}
use Rattle.ingest_meaning.specs.Dictionaries.{limit_of}
use Rattle.ingest_workers.specs.StartedWorkers.{BookMaker}
use Rattle.ingest_meaning.specs.Dictionaries.{IsFullBy, IsTextOf}
use Rattle.ingest_meaning.specs.Given.{IsMessageAt}
use Rattle.ingest_workers.specs.Full.{WasFull}
use Rattle.ingest_meaning.specs.Dictionaries.{book_texts, header_limits}
use Rattle.ingest_workers.specs.Ingested.{known_at, told_entries}
use Rattle.ingest_workers.specs.JobDone.{in_source}
use Rattle.ingest_workers.specs.Met.{WasMet}

module _ {G : Ghosts BookState (List ℕ) ℕ} where
  -- A book was full of as many texts as the maker knows first, and one more was met. Each of these texts that a pass added is
  -- such a text.
  pub record WasFilledBy (P next : List ℕ → Type 0) (count : ℕ) (m : BookMaker G) : Type 0 where
    pub full : WasFull next count (known_at m)
    pub each : (n j : ℕ) (t : List ℕ) → Has (ended_by m) n → StandsIn (own_by m n) j t → j < count → P t

module _ {S : Type 0} (left : S → Option (List ℕ)) (plan : Plan) where
  -- the text is one of the encoding of a message that was met by one of the first so many jobs
  abbrev pub IsMetBy : ℕ → List (Job S) → List (Job S) → Which → List ℕ → Type 0
  IsMetBy count js js' book t = IsTextOf plan.version (WasMet left plan.rows plan.version (take count js) (take count js')) book t

  -- it is one of the message that is the next one behind those that the job's outcome counts
  abbrev pub IsNextFor : Job S → Outcome → Which → List ℕ → Type 0
  IsNextFor j o book t = IsTextOf plan.version (IsMessageAt plan.version (in_source left j.source) o.messages) book t

  -- this holds of each job that a full dictionary stopped, at its place, of what came of it, and of the dictionary and the count
  -- that are told
  abbrev pub OfStopped : (ℕ → Job S → Outcome → Which → ℕ → Type 0) → List (Job S) → List (Job S) → Type 0
  OfStopped P js js' = (i : ℕ) (old new : Job S) (book : Which) (count : ℕ) → slice_get js i ≡ Some old
      → slice_get js' i ≡ Some new
      → new.outcome.cause ≡ Some (Full book count) → P i old new.outcome book count

  module _ {G H : Ghosts BookState (List ℕ) ℕ} where
    -- a book was full of such texts when a job met one more
    abbrev pub WasFilled : BookMaker G → BookMaker H → List (Job S) → List (Job S) → ℕ → Job S → Outcome → Which → ℕ → Type 0
    WasFilled types words js js' i old o Types count =
        WasFilledBy (IsMetBy (i + 1) js js' Types) (IsNextFor old o Types) count types
    WasFilled types words js js' i old o Words count =
        WasFilledBy (IsMetBy (i + 1) js js' Words) (IsNextFor old o Words) count words

    abbrev pub WereFilled : BookMaker G → BookMaker H → List (Job S) → List (Job S) → Type 0
    WereFilled types words js js' = OfStopped (WasFilled types words js js') js js'

  module _ {D : Type 0} {d : DiskGhosts D} where
    -- Where the journal is told, a book may have so many texts by the header, and there are as many of the journal and of the
    -- messages that jobs met up to this one. One more is of the job's next message.
    abbrev pub IsFullInTurn : Journal D d → List (Job S) → List (Job S) → ℕ → Job S → Outcome → Which → ℕ → Type 0
    IsFullInTurn before js js' i old o book count =
        IfTold (is_some (state_of before).disk.seen) ((count ≡ limit_of (header_limits before.header) book)
        × IsFullBy (λ t. Contains (book_texts book (told_entries (state_of before))) t ⊎ IsMetBy (i + 1) js js' book t)
        (IsNextFor old o book) count)

    abbrev pub AreFullInTurn : Journal D d → List (Job S) → List (Job S) → Type 0
    AreFullInTurn before js js' = OfStopped (IsFullInTurn before js js') js js'
