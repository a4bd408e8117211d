use Rattle.std.proofs.Common.{◌≢◌, ◌<◌, ℕ, get_or}
use Rattle.subquery_filter.proofs.needing.has_word.Given as goal

abbrev pub invariant-loop-word : goal.invariant-loop-word
invariant-loop-word l = (k d : ℕ) → k < l.word-index → l.code ≢ get_or l.block k d
