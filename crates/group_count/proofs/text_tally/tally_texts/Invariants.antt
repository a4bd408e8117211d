use Rattle.std.proofs.Common.{List, ℕ}
use Rattle.group_count.specs.StepsTypes.{often_below}
use Rattle.group_count.specs.Tables.{AreCounts, AreNumbered, IsTextTally}
use Rattle.group_count.proofs.text_tally.tally_texts.Given as goal

-- the texts of the numbers up to here are counted
abbrev pub invariant-loop-place : goal.invariant-loop-place
invariant-loop-place l =
    (numbers : List ℕ) → AreCounts l.counts numbers → AreNumbered l.types.texts numbers
    → IsTextTally l.tally (λ q. often_below l.types.texts q l.place numbers)
