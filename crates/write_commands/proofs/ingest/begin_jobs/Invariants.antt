use Rattle.std.proofs.Common.{◌≡◌, ◌+◌, ◌++◌, Some, map, reverse, vec_len, vec_capacity}
use Rattle.log_sources.specs.Sources.{is_opened, refusal_of}
use Rattle.file_outcomes.specs.Jobs.{opens_of, sources_of}
use Rattle.file_outcomes.specs.Naming.{AreNumbered}
use Rattle.write_commands.proofs.ingest.begin_jobs.Given as goal

abbrev pub invariant-loop-source : goal.invariant-loop-source
invariant-loop-source g l = record {
  numbered : AreNumbered l.first l.jobs.items;
  count : vec_len l.jobs + vec_len l.sources ≡ vec_len l.fn.sources;
  opened : vec_len l.openings ≡ vec_len l.jobs;
  room_jobs : vec_capacity l.jobs ≡ vec_capacity l.fn.jobs;
  room_openings : vec_capacity l.openings ≡ vec_capacity l.fn.openings;
  room : vec_capacity l.sources ≡ vec_capacity l.fn.sources;
  sourced : sources_of l.jobs.items ++ map Some (reverse l.sources.items) ≡ map Some l.fn.sources.items;
  opened_jobs : opens_of l.jobs.items ++ map is_opened (reverse l.sources.items) ≡ map is_opened l.fn.sources.items;
  openings : l.openings.items ++ map refusal_of (reverse l.sources.items) ≡ map refusal_of l.fn.sources.items;
}

abbrev pub decreases-loop-source : goal.decreases-loop-source
decreases-loop-source g l = vec_len l.sources
