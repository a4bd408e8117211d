use Rattle.std.proofs.Common.{◌≢◌, ◌<◌, ℕ, get_or}
use Rattle.std.specs.Int.{cast_signed, w64}
use Rattle.subquery_filter.proofs.needing.has_whole.Given as goal

abbrev pub invariant-loop-word : goal.invariant-loop-word
invariant-loop-word l = (k d : ℕ) → k < l.word-index → l.number ≢ cast_signed w64 (get_or l.block k d)
