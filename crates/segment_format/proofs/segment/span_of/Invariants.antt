use Rattle.std.proofs.Common.{◌≡◌, map, take, length}
use Rattle.segment_format.specs.Layout.{stamped_moments, has_any, least_of, greatest_of}
use Rattle.segment_format.proofs.segment.span_of.Given as goal

abbrev pub invariant-loop-place : goal.invariant-loop-place
invariant-loop-place l =
    (l.patterns ≡ map (λ r. r.pattern) l.columns.rows) × (l.moments ≡ map (λ r. r.moment) l.columns.rows) × (l.place-end ≡ length l.columns.rows)
    × (l.stamped ≡ has_any (stamped_moments (take l.place l.columns.rows))) × (l.least ≡ least_of (stamped_moments (take l.place l.columns.rows)))
    × (l.greatest ≡ greatest_of (stamped_moments (take l.place l.columns.rows)))
