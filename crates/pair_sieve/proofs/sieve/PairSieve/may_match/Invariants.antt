use Rattle.std.proofs.Common.{◌≡◌, ◌<◌, ℕ, Some, true}
use Rattle.std.specs.Prelude.{slice_get, slice_index}
use Rattle.pair_sieve.proofs.sieve.PairSieve.may_match.Given as goal

abbrev pub invariant-loop-word : goal.invariant-loop-word
invariant-loop-word l = (i : ℕ) → i < l.word-index → ¬ (slice_get l.self.words (slice_index l.row.words.now i) ≡ Some true)
