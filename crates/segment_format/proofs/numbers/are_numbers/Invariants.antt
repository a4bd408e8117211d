use Rattle.std.proofs.Common.{◌≡◌, ◌<◌, ℕ, get_or}
use Rattle.segment_format.proofs.PagesLemmas.{number_at}
use Rattle.segment_format.proofs.numbers.are_numbers.Given as goal

abbrev pub invariant-loop-place : goal.invariant-loop-place
invariant-loop-place l = (k : ℕ) → k < l.place → number_at l.bytes k ≡ get_or l.numbers k 0
