use Rattle.std.proofs.Common.{arith, rules, refl, ◌∙◌}
use Rattle.column_store.specs.declared.row.Row.{Row}
use Rattle.segment_pages.proofs.ColumnLemmas.{counted_left}
use Rattle.group_count.specs.Tables.{HoldTypes}
use Rattle.group_count.proofs.ColumnLemmas.{read_part, runs_end, runs_first, runs_next, runs_none, runs_reads}
use Rattle.group_count.proofs.columns.count_types.Goals as goal

pub loop-run-init : goal.loop-run-init
loop-run-init g c = (refl, runs_first HoldTypes (λ (r : Row). r.log_type) c.args.pages.now (g.D.Disk.state c.args.disk.now) c.args.table.now _ (omega arith))

pub returns-in_err-read_types-clause-reads : goal.returns-in_err-read_types-clause-reads
returns-in_err-read_types-clause-reads g c = runs_reads HoldTypes (λ (r : Row). r.log_type) c.args.pages.now _ _ _ _ _ _ c.loop-run.invariant.1 c.read_types.ensures.reads

pub returns-in_err-read_types-clause-damaged : goal.returns-in_err-read_types-clause-damaged
returns-in_err-read_types-clause-damaged g c = λ is. runs_none HoldTypes (λ (r : Row). r.log_type) c.args.pages.now _ _ _ _ _ c.loop-run.invariant.1 (c.in_err-read_types.ensures.damaged (search rules))

pub returns-in_err-count_all-clause-reads : goal.returns-in_err-count_all-clause-reads
returns-in_err-count_all-clause-reads g c = runs_reads HoldTypes (λ (r : Row). r.log_type) c.args.pages.now _ _ _ _ _ _ c.loop-run.invariant.1 c.read_types.ensures.reads

pub loop-run-preserved : goal.loop-run-preserved
loop-run-preserved g c = (
  c.count_all.ensures.limit ∙ c.loop-run.invariant.0,
  runs_next HoldTypes (λ (r : Row). r.log_type) c.args.pages.now _ (g.D.Disk.state c.loop-run.disk) _ _ c.loop-run.table c.count_all.new.self _ _ _ _ (omega arith) (omega arith) c.loop-run.invariant.1 c.read_types.ensures.reads (search rules)
      (read_part HoldTypes (λ (r : Row). r.log_type) c.loop-run.table c.count_all.new.self _ c.args.pages.now _ _ _ _ c.in_ok-read_types.ensures.types c.as_slice.ensures.value c.in_ok-count_all.ensures.counted),
)

pub returns-clause-counted : goal.returns-clause-counted
returns-clause-counted g c =
    runs_end HoldTypes (λ (r : Row). r.log_type) c.args.pages.now (g.D.Disk.state c.args.disk.now) (g.D.Disk.state c.loop-run.disk) c.args.table.now c.loop-run.table _ counted_left (omega arith) c.loop-run.invariant.1
