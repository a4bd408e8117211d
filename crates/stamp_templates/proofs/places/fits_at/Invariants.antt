use Rattle.std.proofs.Common.{◌+◌, ◌<◌, ℕ, slice_index, IsTrue}
use Rattle.stamp_templates.specs.Templates.{allows}
use Rattle.stamp_templates.proofs.places.fits_at.Given as goal

abbrev pub invariant-loop-place : goal.invariant-loop-place
invariant-loop-place l = (i : ℕ) → i < l.place → IsTrue (allows (slice_index l.template (l.at + i)) (slice_index l.text i))
