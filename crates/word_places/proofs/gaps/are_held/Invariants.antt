use Rattle.std.proofs.Common.{ℕ, ◌<◌, get_or}
use Rattle.word_places.specs.StepsHeld.{HasHeld}
use Rattle.word_places.proofs.gaps.are_held.Given as goal

abbrev pub invariant-loop-number : goal.invariant-loop-number
invariant-loop-number l = (k : ℕ) (d : ℕ) → k < l.number-index → HasHeld l.records (get_or l.numbers k d)
