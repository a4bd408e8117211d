use Rattle.std.proofs.Common.{ap}
use Rattle.std.specs.Prelude.{option_map}
use Rattle.log_sources.specs.Sources.{str_bytes}
use Rattle.clp_commands.proofs.CommandLemmas.{ingest_answers, some_of, watch_answers}
use Rattle.clp_commands.proofs.top_call.take_turns.Goals as goal

pub ingest_files-requires-clause-workers : goal.ingest_files-requires-clause-workers
ingest_files-requires-clause-workers g c κs within =
    let range = rw (c.in-Ingest.is) at c.requires.range in
    rw (c.of-logs.ensures.workers) (range.workers_are.low, range.workers_are.high)

pub ingest_files-requires-clause-segment : goal.ingest_files-requires-clause-segment
ingest_files-requires-clause-segment g c κs within =
    let range = rw (c.in-Ingest.is) at c.requires.range in
    rw (c.of-logs.ensures.segment) (range.segment_is.low, range.segment_is.high)

pub ingest_files-requires-clause-some : goal.ingest_files-requires-clause-some
ingest_files-requires-clause-some g c κs within =
    let range = rw (c.in-Ingest.is) at c.requires.range in
    rw (c.of-logs.ensures.files) (some_of str_bytes c.in-Ingest.asked.files.items range.some)

pub returns-in-None-clause-answers : goal.returns-in-None-clause-answers
returns-in-None-clause-answers g c =
    rw (c.in-Ingest.is) (rw (← c.of-logs.ensures.files) (rw (← c.of-logs.ensures.segment) (rw (← c.of-logs.ensures.workers) (ingest_answers _ _ _ _ _ _ _ _ _ _ _ (ap (option_map str_bytes) c.in-None.is) c.ingest_files.ensures.names c.ingest_files.ensures.answers))))

pub returns-in-None-clause-keeps : goal.returns-in-None-clause-keeps
returns-in-None-clause-keeps g c = λ none. absurd (none (rw (c.in-Ingest.is) tt))

pub watch_files-requires-clause-workers : goal.watch_files-requires-clause-workers
watch_files-requires-clause-workers g c κs within =
    let range = rw (c.in-Ingest.is) at c.requires.range in
    rw (c.of-logs.ensures.workers) (range.workers_are.low, range.workers_are.high)

pub watch_files-requires-clause-segment : goal.watch_files-requires-clause-segment
watch_files-requires-clause-segment g c κs within =
    let range = rw (c.in-Ingest.is) at c.requires.range in
    rw (c.of-logs.ensures.segment) (range.segment_is.low, range.segment_is.high)

pub watch_files-requires-clause-some : goal.watch_files-requires-clause-some
watch_files-requires-clause-some g c κs within =
    let range = rw (c.in-Ingest.is) at c.requires.range in
    rw (c.of-logs.ensures.files) (some_of str_bytes c.in-Ingest.asked.files.items range.some)

pub returns-in-Some-clause-answers : goal.returns-in-Some-clause-answers
returns-in-Some-clause-answers g c =
    rw (c.in-Ingest.is) (rw (← c.of-logs.ensures.files) (rw (← c.of-logs.ensures.segment) (rw (← c.of-logs.ensures.workers) (watch_answers _ _ _ _ _ _ _ _ _ _ _ _ (ap (option_map str_bytes) c.in-Some.is) c.watch_files.ensures.answers))))

pub returns-in-Some-clause-keeps : goal.returns-in-Some-clause-keeps
returns-in-Some-clause-keeps g c = λ none. absurd (none (rw (c.in-Ingest.is) tt))

pub bench-requires-clause-lines : goal.bench-requires-clause-lines
bench-requires-clause-lines g c κs within =
    let range = rw (c.in-Bench.is) at c.requires.range in
    range.lines_are.high

pub bench-requires-clause-workers : goal.bench-requires-clause-workers
bench-requires-clause-workers g c κs within =
    let range = rw (c.in-Bench.is) at c.requires.range in
    (range.workers_are.low, range.workers_are.high)

pub returns-in-Bench-clause-answers : goal.returns-in-Bench-clause-answers
returns-in-Bench-clause-answers g c =
    rw (c.in-Bench.is) (c.bench.ensures.answers _ _ _ _)

pub returns-in-Bench-clause-keeps : goal.returns-in-Bench-clause-keeps
returns-in-Bench-clause-keeps g c = λ none. absurd (none (rw (c.in-Bench.is) tt))

pub returns-in-Merge-clause-answers : goal.returns-in-Merge-clause-answers
returns-in-Merge-clause-answers g c =
    rw (c.in-Merge.is) (c.merge_archives.ensures.answers _ _ _ _)

pub returns-in-Merge-clause-keeps : goal.returns-in-Merge-clause-keeps
returns-in-Merge-clause-keeps g c = λ none. absurd (none (rw (c.in-Merge.is) tt))

pub returns-in-Merge-clause-second : goal.returns-in-Merge-clause-second
returns-in-Merge-clause-second g c = λ none. absurd (none (rw (c.in-Merge.is) tt))

pub returns-in-Upgrade-clause-answers : goal.returns-in-Upgrade-clause-answers
returns-in-Upgrade-clause-answers g c =
    rw (c.in-Upgrade.is) (c.upgrade_archive.ensures.answers _ _ _ _)

pub returns-in-Upgrade-clause-second : goal.returns-in-Upgrade-clause-second
returns-in-Upgrade-clause-second g c = λ none. absurd (none (rw (c.in-Upgrade.is) tt))
