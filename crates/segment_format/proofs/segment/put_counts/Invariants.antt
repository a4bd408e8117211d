use Rattle.std.proofs.Common.{◌≡◌, ◌++◌, length, map, take}
use Rattle.std.specs.List.{flat_map}
use Rattle.record_format.specs.Lists.{four_bytes}
use Rattle.column_store.specs.Row.{variable_count}
use Rattle.column_store.specs.Columns.{ends_from}
use Rattle.segment_format.proofs.segment.put_counts.Given as goal

abbrev pub invariant-loop-end : goal.invariant-loop-end
invariant-loop-end l =
    (l.end-items ≡ ends_from 0 l.columns.rows) × (l.start ≡ variable_count (take l.end-index l.columns.rows))
    × (l.out.items ≡ l.fn.out.items ++ flat_map four_bytes (map (λ r. length r.words) (take l.end-index l.columns.rows)))
