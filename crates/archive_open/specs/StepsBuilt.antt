-- What was built of the entries so far.
use Rattle.archive_open.specs.declared.opening.Opening.{Opening}
use Rattle.archive_open.specs.Kept.{Kept}
use Rattle.archive_open.specs.StepsNext.{Built}

abbrev pub built_of : {K : Type 0} → (K → Kept) → Opening K → Built
built_of kept o = record { kept = kept o.grown.names; files = o.grown.files.items; segments = o.segments.items }
