use Rattle.std.proofs.Common.{◌≡◌, length}
use Rattle.subquery_filter.specs.StepsLetters.{left_of}
use Rattle.subquery_filter.proofs.letters.RowLettersLetters.letter.Given as goal

-- no byte is lost
abbrev pub invariant-loop-byte : goal.invariant-loop-byte
invariant-loop-byte g l =
    left_of l.self.printed l.self.at l.self.end l.self.word.now (g.N.Names.words l.self.names.now) l.self.text.now l.self.words.now
    ≡ left_of l.initial.self.printed l.initial.self.at l.initial.self.end l.initial.self.word.now (g.N.Names.words l.initial.self.names.now) l.initial.self.text.now l.initial.self.words.now

abbrev pub decreases-loop-byte : goal.decreases-loop-byte
decreases-loop-byte g l = length l.self.text.now
