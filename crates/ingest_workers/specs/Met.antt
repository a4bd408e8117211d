-- Which messages jobs met.
use Rattle.std.specs.Prelude.{◌≡◌, ℕ, List, Option, Some, slice_get}
use Rattle.ingest_workers.specs.declared.job.Job.{Job}
use Rattle.ingest_workers.specs.declared.outcome.Outcome.{Outcome}
use Rattle.ingest_meaning.specs.Given.{IsAmongFirst}
use Rattle.ingest_workers.specs.JobDone.{in_source}
use Rattle.ingest_workers.specs.Outcome.{met_by}

module _ {S : Type 0} (left : S → Option (List ℕ)) (rows version : ℕ) where
  -- a job, of which this came, met the message
  abbrev pub WasMetBy : Job S → Outcome → List ℕ → Type 0
  WasMetBy j o m = IsAmongFirst version (in_source left j.source) (met_by rows o) m

  -- one of the jobs did, which became these
  abbrev pub WasMet : List (Job S) → List (Job S) → List ℕ → Type 0
  WasMet js js' m = (i : ℕ) × (j j' : Job S) × (slice_get js i ≡ Some j) × (slice_get js' i ≡ Some j') × WasMetBy j j'.outcome m
