use Rattle.std.proofs.Common.{ℕ, ◌<◌, get_or, pos}
use Rattle.std.specs.Int.{w64}
use Rattle.std.specs.Int.RustNames.{FitsSigned}
use Rattle.segment_pages.proofs.columns.moments_fit.Given as goal

abbrev pub invariant-loop-moment : goal.invariant-loop-moment
invariant-loop-moment l = (k : ℕ) → k < l.moment-index → FitsSigned w64 (get_or l.moments k (pos 0))
