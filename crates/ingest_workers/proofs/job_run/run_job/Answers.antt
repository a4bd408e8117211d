use Rattle.std.proofs.Common.{rules, ◌≡◌, Some, ap, subst, sym, true, false}
use Rattle.ingest_meaning.specs.Given.{IsAmongFirst}
use Rattle.ingest_workers.specs.Full.{books_by}
use Rattle.ingest_workers.specs.JobDone.{in_source}
use Rattle.ingest_workers.specs.Namer.{types_pass, words_pass}
use Rattle.ingest_workers.specs.Naming.{HasNamed}
use Rattle.ingest_workers.specs.Outcome.{met_by}
use Rattle.ingest_workers.proofs.UnopenedLemmas.{left_undone}
use Rattle.ingest_workers.specs.Causes.{log_of}
use Rattle.ingest_workers.specs.Turns.{TakesFewOf}
use Rattle.ingest_workers.proofs.TakingLemmas.{met_none}
use Rattle.ingest_workers.proofs.job_run.run_job.Goals as goal

pub take_source-source-requires-clause-worker : goal.take_source-source-requires-clause-worker
take_source-source-requires-clause-worker g c = record { ready = c.requires.new.ready; opening = c.requires.new.opening; namer = c.requires.namer }

pub returns-clause-names : goal.returns-clause-names
returns-clause-names g c =
    let is : c.args.job.now.source ≡ Some c.in-Some.source = search rules in
    subst (λ b. HasNamed (IsAmongFirst c.args.namer.now.version b (met_by c.args.rows c.take_source-source.result.1)) c.args.namer.now c.take_source-source.new.namer)
    (sym (ap (in_source g.S.Source.left) is)) c.take_source-source.ensures.names

pub returns-clause-done : goal.returns-clause-done
returns-clause-done g c =
    let is : c.args.job.now.source ≡ Some c.in-Some.source = search rules in
    let given : c.args.job.now.is_open ≡ true = search rules in
    record {
      file = search rules;
      cause = λ some. c.take_source-source.ensures.cause;
      part = c.take_source-source.ensures.part;
      unopened = λ closed. absurd (cc (given, closed));
      source = record { before = c.in-Some.source; after = c.take_source-source.result.0; had = is; has = search rules; keeps = c.take_source-source.ensures.source };
      came = c.take_source-source.ensures.came.came;
      none = λ some. c.take_source-source.ensures.came.none;
    }

-- ---- a source that was not opened

pub returns-then-not-job-clause-done : goal.returns-then-not-job-clause-done
returns-then-not-job-clause-done g c =
    let closed : c.args.job.now.is_open ≡ false = search rules in
    left_undone g.D.Disk.state g.S.Source.left g.S.Source.name g.S.Source.faults c.args.rows c.args.namer.now.version (books_by (types_pass c.args.namer.now) (words_pass c.args.namer.now)) c.args.job.now c.args.keeper.now
    c.requires.rows.0 c.requires.new.so_far c.requires.new.ready closed c.requires.new.outcome

-- ---- turns

pub returns-clause-turns : goal.returns-clause-turns
returns-clause-turns g c =
    let is : c.args.job.now.source ≡ Some c.in-Some.source = search rules in
    subst (λ b. TakesFewOf g.D.Disk.state c.args.rows b c.take_source-source.result.1 c.args.keeper.now c.take_source-source.new.keeper c.args.namer.now c.take_source-source.new.namer)
    (sym (ap (in_source g.S.Source.left) is)) c.take_source-source.ensures.turns

pub returns-then-not-job-clause-turns : goal.returns-then-not-job-clause-turns
returns-then-not-job-clause-turns g c =
    let closed : c.args.job.now.is_open ≡ false = search rules in
    let undone = left_undone g.D.Disk.state g.S.Source.left g.S.Source.name g.S.Source.faults c.args.rows c.args.namer.now.version (books_by (types_pass c.args.namer.now) (words_pass c.args.namer.now)) c.args.job.now c.args.keeper.now
    c.requires.rows.0 c.requires.new.so_far c.requires.new.ready closed c.requires.new.outcome in
    let log = log_of g.S.Source.left g.S.Source.faults undone.source.before undone.source.after in
    subst (λ b. TakesFewOf g.D.Disk.state c.args.rows b c.args.job.now.outcome c.args.keeper.now c.args.keeper.now c.args.namer.now c.args.namer.now)
    (sym (ap (in_source g.S.Source.left) undone.source.had))
    (met_none g.D.Disk.state c.args.rows (books_by (types_pass c.args.namer.now) (words_pass c.args.namer.now)) log c.args.keeper.now c.args.namer.now c.args.job.now.outcome undone.came)
