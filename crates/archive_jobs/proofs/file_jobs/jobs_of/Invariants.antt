use Rattle.std.proofs.Common.{◌≡◌, ℕ, length, Some, slice_get, vec_len, vec_capacity}
use Rattle.archive_open.specs.declared.files.FileEntry.{FileEntry}
use Rattle.archive_jobs.specs.Jobs.{IsJobOf}
use Rattle.archive_jobs.proofs.file_jobs.jobs_of.Given as goal

abbrev pub invariant-loop-file : goal.invariant-loop-file
invariant-loop-file g l = record {
  room : vec_capacity l.jobs ≡ length l.files;
  count : vec_len l.jobs ≡ l.file-index;
  each : (i : ℕ) (j : _) → slice_get l.jobs.items i ≡ Some j → (f : FileEntry) → slice_get l.files i ≡ Some f → IsJobOf g.L.Lent.lent.disk.seen i f.whole j;
}
