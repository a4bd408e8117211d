use Rattle.std.proofs.Common.{◌≡◌, ◌+◌, ◌++◌, ℕ, Some, drop, length, map, reverse, take, vec_len, vec_capacity}
use Rattle.std.specs.Prelude.{slice_get}
use Rattle.log_sources.specs.Sources.{str_bytes}
use Rattle.write_commands.specs.IngestPrints.{names_of}
use Rattle.file_outcomes.specs.Jobs.{IsToldBy, sources_of}
use Rattle.file_outcomes.specs.declared.file_report.FileReport.{FileReport}
use Rattle.write_commands.proofs.ingest.end_jobs.Given as goal

abbrev pub invariant-loop-job : goal.invariant-loop-job
invariant-loop-job g l = record {
  named : names_of l.taken.items ≡ take (length l.taken.items) (map str_bytes l.names);
  count : vec_len l.taken + vec_len l.jobs ≡ length l.names;
  room : vec_capacity l.taken ≡ vec_capacity l.fn.taken;
  ended : vec_len l.sources ≡ vec_len l.taken;
  room_sources : vec_capacity l.sources ≡ vec_capacity l.fn.sources;
  given : map Some l.sources.items ++ sources_of (reverse l.jobs.items) ≡ sources_of l.fn.jobs.items;
  left : drop (length l.taken.items) l.fn.jobs.items ≡ reverse l.jobs.items;
  told : (i : ℕ) (file : FileReport) → slice_get l.taken.items i ≡ Some file → IsToldBy l.openings l.fn.jobs.items i file;
}

abbrev pub decreases-loop-job : goal.decreases-loop-job
decreases-loop-job g l = vec_len l.jobs
