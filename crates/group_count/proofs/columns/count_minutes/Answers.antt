use Rattle.std.proofs.Common.{arith, rules, refl, ◌∙◌}
use Rattle.column_store.specs.declared.row.Row.{Row}
use Rattle.segment_pages.proofs.ColumnLemmas.{counted_left}
use Rattle.group_count.specs.Tables.{AreMinutes, minute_at}
use Rattle.group_count.proofs.ColumnLemmas.{runs_end, runs_first, runs_next, runs_none, runs_reads, same_micro}
use Rattle.group_count.proofs.columns.count_minutes.Goals as goal

pub loop-run-init : goal.loop-run-init
loop-run-init g c = (refl, runs_first AreMinutes (λ (r : Row). minute_at c.args.table.now.micro r.pattern r.moment) c.args.pages.now (g.D.Disk.state c.args.disk.now) c.args.table.now _ (omega arith))

pub returns-in_err-count_run-clause-reads : goal.returns-in_err-count_run-clause-reads
returns-in_err-count_run-clause-reads g c = runs_reads AreMinutes (λ (r : Row). minute_at c.args.table.now.micro r.pattern r.moment) c.args.pages.now _ _ _ _ _ _ c.loop-run.invariant.1 c.count_run.ensures.reads

pub returns-in_err-count_run-clause-damaged : goal.returns-in_err-count_run-clause-damaged
returns-in_err-count_run-clause-damaged g c = λ is.
    runs_none AreMinutes (λ (r : Row). minute_at c.args.table.now.micro r.pattern r.moment) c.args.pages.now _ _ _ _ _ c.loop-run.invariant.1 (c.in_err-count_run.ensures.damaged (search rules))

pub loop-run-preserved : goal.loop-run-preserved
loop-run-preserved g c = (
  c.count_run.ensures.micro ∙ c.loop-run.invariant.0,
  runs_next AreMinutes (λ (r : Row). minute_at c.args.table.now.micro r.pattern r.moment) c.args.pages.now _ (g.D.Disk.state c.loop-run.disk) _ _ c.loop-run.table c.count_run.new.table _ _ _ _ (omega arith) (omega arith) c.loop-run.invariant.1
      c.count_run.ensures.reads (search rules) (same_micro _ c.args.pages.now c.loop-run.table c.count_run.new.table c.args.table.now.micro _ _ c.loop-run.invariant.0 c.in_ok-count_run.ensures.counted),
)

pub returns-clause-counted : goal.returns-clause-counted
returns-clause-counted g c =
    runs_end AreMinutes (λ (r : Row). minute_at c.args.table.now.micro r.pattern r.moment) c.args.pages.now (g.D.Disk.state c.args.disk.now) (g.D.Disk.state c.loop-run.disk) c.args.table.now c.loop-run.table _ counted_left (omega arith) c.loop-run.invariant.1
