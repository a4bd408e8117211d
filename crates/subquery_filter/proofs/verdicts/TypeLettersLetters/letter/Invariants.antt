use Rattle.std.proofs.Common.{◌≡◌, length}
use Rattle.std.specs.Prelude.{false}
use Rattle.subquery_filter.specs.StepsLetters.{mark_of, marked_from}
use Rattle.subquery_filter.proofs.verdicts.TypeLettersLetters.letter.Given as goal

-- no byte is lost
abbrev pub invariant-loop-symbol : goal.invariant-loop-symbol
invariant-loop-symbol l = marked_from false (mark_of l.self.mark) l.self.text.now ≡ marked_from false (mark_of l.initial.self.mark) l.initial.self.text.now

abbrev pub decreases-loop-symbol : goal.decreases-loop-symbol
decreases-loop-symbol l = length l.self.text.now
