-- The moments of a segment's rows and those of its head.
use Rattle.std.proofs.Common.{◌≡◌, ◌≢◌, List}
use Rattle.std.specs.Prelude.{◌≤ℤ◌, true}
use Rattle.std.specs.List.{Contains}
use Rattle.column_store.specs.declared.row.Row.{Row}
use Rattle.segment_format.specs.Layout.{greatest_of, has_any, least_of, stamped_moments}
use Rattle.subquery_filter.proofs.BarrenLemmas.{greatest_above, least_below, moment_there, some_any}

-- the moment of a row with a stamp lies between the least and the greatest
pub within_moments : (rows : List Row) (row : Row) → Contains rows row → row.pattern ≢ 0
    → (has_any (stamped_moments rows) ≡ true) × (least_of (stamped_moments rows) ≤ℤ row.moment) × (row.moment ≤ℤ greatest_of (stamped_moments rows))
within_moments rows row there stamped =
    let moment = moment_there rows row there stamped in
    (some_any (stamped_moments rows) row.moment moment, least_below (stamped_moments rows) row.moment moment, greatest_above (stamped_moments rows) row.moment moment)
