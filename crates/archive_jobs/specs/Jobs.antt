-- The files of an archive as jobs.
use Rattle.std.specs.Prelude.{◌≡◌, ℕ, List, length, Bool, true, not, Option, Some, slice_get}
use Rattle.archive_open.specs.declared.files.FileEntry.{FileEntry}
use Rattle.archive_text.specs.State.{StoredState}
use Rattle.archive_text.specs.Told.{TellsFile}
use Rattle.ingest_workers.specs.declared.job.Job.{Job}
use Rattle.ingest_workers.specs.Outcome.{nothing_done}

module _ {D : Type 0} (seen : Option (List ℕ)) where
  -- Nothing of the file's text was read, which is that of the file of a number in the archive that the bytes stand for.
  pub record IsTextOf (number : ℕ) (t : StoredState D) : Type 0 where
    pub tells : TellsFile number seen t.left
    pub given : t.given ≡ 0
    pub faults : t.faults ≡ 0

  -- The job is to make it a file of the same number, marked whole or as a part. It was not done yet.
  pub record IsJobOf (number : ℕ) (whole : Bool) (j : Job (StoredState D)) : Type 0 where
    pub file : j.file ≡ number
    pub opened : j.is_open ≡ true
    pub part : j.is_part ≡ not whole
    pub outcome : j.outcome ≡ nothing_done
    pub text : StoredState D
    pub source : j.source ≡ Some text
    pub text_is : IsTextOf number text

  -- there is such a job of each file, at its number
  pub record AreJobsOf (files : List FileEntry) (js : List (Job (StoredState D))) : Type 0 where
    pub count : length js ≡ length files
    pub each : (i : ℕ) (f : FileEntry) → slice_get files i ≡ Some f
        → (j : Job (StoredState D)) × (slice_get js i ≡ Some j) × IsJobOf i f.whole j
