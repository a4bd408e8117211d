use Rattle.std.proofs.Common.{[], false, refl, subst, Some}
use Rattle.ingest_workers.specs.declared.outcome.Cause.TheVariants.{OutOfMemory}
use Rattle.message_reader.specs.Reading.{IsNewReader}
use Rattle.ingest_workers.proofs.TakingLemmas.{came_back, came_none, came_to, met_none, named_met, taking_none, took_few}
use Rattle.ingest_workers.specs.Causes.{log_from, log_of}
use Rattle.ingest_workers.specs.Full.{books_by}
use Rattle.ingest_workers.specs.JobDone.{CameToAll}
use Rattle.ingest_workers.specs.Namer.{types_pass, words_pass}
use Rattle.ingest_workers.proofs.job_run.take_source.Goals as goal

pub returns-in-Err-clause-came : goal.returns-in-Err-clause-came
returns-in-Err-clause-came g c = record {
  came = came_none g.D.Disk.state c.args.rows c.requires.rows.0 c.args.keeper.now c.requires.so_far c.args.namer.now.version _ _ c.requires.worker.ready (Some OutOfMemory) tt;
  none = λ none. absurd (cc (none));
}

pub add_messages-stop-requires-clause-taking : goal.add_messages-stop-requires-clause-taking
add_messages-stop-requires-clause-taking g c = (
  g.S.Source.left c.args.source,
  c.args.keeper.now,
  c.args.namer.now,
  [],
  (taking_none g.D.Disk.state c.args.rows c.requires.rows.0 c.args.keeper.now c.requires.so_far g.S.Source.left c.args.source c.in-Ok.reader c.args.namer.now c.new-segment.result c.args.file c.requires.worker c.requires.file c.new-segment.ensures
      (subst (λ v. IsNewReader v c.args.source c.in-Ok.reader) c.version.ensures c.in-Ok.ensures.fresh)),
)

pub finish_file-outcome-requires-clause-stops : goal.finish_file-outcome-requires-clause-stops
finish_file-outcome-requires-clause-stops g c =
    let took = c.add_messages-stop.ensures.took (g.S.Source.left c.args.source) c.args.keeper.now c.args.namer.now []
    (taking_none g.D.Disk.state c.args.rows c.requires.rows.0 c.args.keeper.now c.requires.so_far g.S.Source.left c.args.source c.in-Ok.reader c.args.namer.now c.new-segment.result c.args.file c.requires.worker c.requires.file c.new-segment.ensures
    (subst (λ v. IsNewReader v c.args.source c.in-Ok.reader) c.version.ensures c.in-Ok.ensures.fresh)) in
    (c.args.keeper.now, took.taken, took.few, took.stops)

pub returns-clause-names : goal.returns-clause-names
returns-clause-names g c =
    let took = c.add_messages-stop.ensures.took (g.S.Source.left c.args.source) c.args.keeper.now c.args.namer.now []
    (taking_none g.D.Disk.state c.args.rows c.requires.rows.0 c.args.keeper.now c.requires.so_far g.S.Source.left c.args.source c.in-Ok.reader c.args.namer.now c.new-segment.result c.args.file c.requires.worker c.requires.file c.new-segment.ensures
    (subst (λ v. IsNewReader v c.args.source c.in-Ok.reader) c.version.ensures c.in-Ok.ensures.fresh)) in
    named_met g.D.Disk.state c.args.rows c.args.namer.now.version (log_from (g.S.Source.left c.args.source) g.S.Source.left g.S.Source.faults c.in-Ok.reader.source c.add_messages-stop.new.reader.source) c.args.keeper.now c.add_messages-stop.new.keeper
    c.args.namer.now c.add_messages-stop.new.namer c.add_messages-stop.new.segment c.add_messages-stop.result took c.finish_file-outcome.new.keeper c.finish_file-outcome.result
    _ _ (c.finish_file-outcome.ensures.outcome c.args.keeper.now took.taken took.stops) c.finish_file-outcome.new.namer c.finish_file-outcome.ensures.namer

pub returns-clause-came : goal.returns-clause-came
returns-clause-came g c =
    let took = c.add_messages-stop.ensures.took (g.S.Source.left c.args.source) c.args.keeper.now c.args.namer.now []
    (taking_none g.D.Disk.state c.args.rows c.requires.rows.0 c.args.keeper.now c.requires.so_far g.S.Source.left c.args.source c.in-Ok.reader c.args.namer.now c.new-segment.result c.args.file c.requires.worker c.requires.file c.new-segment.ensures
    (subst (λ v. IsNewReader v c.args.source c.in-Ok.reader) c.version.ensures c.in-Ok.ensures.fresh)) in
    let fresh = subst (λ v. IsNewReader v c.args.source c.in-Ok.reader) c.version.ensures c.in-Ok.ensures.fresh in
    came_back g.S.Source.left g.S.Source.faults c.args.source c.in-Ok.reader.source c.add_messages-stop.new.reader.source c.into_source.result fresh.source_is c.into_source.ensures
    (λ log. CameToAll g.D.Disk.state c.args.rows c.args.namer.now.version (books_by (types_pass c.finish_file-outcome.new.namer) (words_pass c.finish_file-outcome.new.namer)) log c.args.keeper.now c.finish_file-outcome.new.keeper c.finish_file-outcome.result)
    (came_to g.D.Disk.state c.args.rows c.args.namer.now.version (log_from (g.S.Source.left c.args.source) g.S.Source.left g.S.Source.faults c.in-Ok.reader.source c.add_messages-stop.new.reader.source) c.args.keeper.now c.add_messages-stop.new.keeper c.args.namer.now c.add_messages-stop.new.namer c.add_messages-stop.new.segment c.add_messages-stop.result took c.finish_file-outcome.new.keeper c.finish_file-outcome.result
    c.finish_file-outcome.new.namer c.finish_file-outcome.ensures.namer _ took.learned.named.version
    (c.finish_file-outcome.ensures.outcome c.args.keeper.now took.taken took.stops) c.finish_file-outcome.ensures.ends)

-- ---- turns

pub returns-in-Err-clause-turns : goal.returns-in-Err-clause-turns
returns-in-Err-clause-turns g c =
    met_none g.D.Disk.state c.args.rows (books_by (types_pass c.args.namer.now) (words_pass c.args.namer.now)) (log_of g.S.Source.left g.S.Source.faults c.args.source c.args.source) c.args.keeper.now c.args.namer.now
    (record { messages = 0; whole = false; cause = Some OutOfMemory })
    (came_none g.D.Disk.state c.args.rows c.requires.rows.0 c.args.keeper.now c.requires.so_far c.args.namer.now.version _ _ c.requires.worker.ready (Some OutOfMemory) tt)

pub returns-clause-turns : goal.returns-clause-turns
returns-clause-turns g c =
    let took = c.add_messages-stop.ensures.took (g.S.Source.left c.args.source) c.args.keeper.now c.args.namer.now []
    (taking_none g.D.Disk.state c.args.rows c.requires.rows.0 c.args.keeper.now c.requires.so_far g.S.Source.left c.args.source c.in-Ok.reader c.args.namer.now c.new-segment.result c.args.file c.requires.worker c.requires.file c.new-segment.ensures
    (subst (λ v. IsNewReader v c.args.source c.in-Ok.reader) c.version.ensures c.in-Ok.ensures.fresh)) in
    took_few g.D.Disk.state c.args.rows c.args.namer.now.version (log_from (g.S.Source.left c.args.source) g.S.Source.left g.S.Source.faults c.in-Ok.reader.source c.add_messages-stop.new.reader.source) c.args.keeper.now c.add_messages-stop.new.keeper
    c.args.namer.now c.add_messages-stop.new.namer c.add_messages-stop.new.segment c.add_messages-stop.result took c.finish_file-outcome.new.keeper c.finish_file-outcome.result
    _ _ (c.finish_file-outcome.ensures.outcome c.args.keeper.now took.taken took.stops) c.finish_file-outcome.new.namer refl c.finish_file-outcome.ensures.turns
