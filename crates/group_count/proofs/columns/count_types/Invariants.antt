use Rattle.std.proofs.Common.{◌≡◌, ◌*◌, min}
use Rattle.column_store.specs.declared.row.Row.{Row}
use Rattle.group_count.specs.Tables.{HoldTypes}
use Rattle.group_count.proofs.ColumnLemmas.{RunsPast}
use Rattle.group_count.proofs.columns.count_types.Given as goal

abbrev pub invariant-loop-run : goal.invariant-loop-run
invariant-loop-run g l =
    (l.table.limit ≡ l.fn.table.limit)
    × RunsPast HoldTypes (λ (r : Row). r.log_type) l.pages (g.D.Disk.state l.fn.disk) (g.D.Disk.state l.disk) l.fn.table l.table (min (16384 * l.run) l.rows)
