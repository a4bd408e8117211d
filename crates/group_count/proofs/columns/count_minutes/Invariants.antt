use Rattle.std.proofs.Common.{◌≡◌, ◌*◌, min}
use Rattle.column_store.specs.declared.row.Row.{Row}
use Rattle.group_count.specs.Tables.{AreMinutes, minute_at}
use Rattle.group_count.proofs.ColumnLemmas.{RunsPast}
use Rattle.group_count.proofs.columns.count_minutes.Given as goal

abbrev pub invariant-loop-run : goal.invariant-loop-run
invariant-loop-run g l =
    (l.table.micro ≡ l.fn.table.micro)
    × RunsPast AreMinutes (λ (r : Row). minute_at l.fn.table.micro r.pattern r.moment) l.pages (g.D.Disk.state l.fn.disk) (g.D.Disk.state l.disk) l.fn.table l.table (min (16384 * l.run) l.rows)
