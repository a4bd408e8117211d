use Rattle.std.proofs.Common.{◌≡◌, ◌++◌, length}
use Rattle.logtype_text.specs.Parts.{joined}
use Rattle.query_plan.specs.Symbols.{parts}
use Rattle.query_plan.proofs.symbols.SymbolLettersLetters.letter.Given as goal

-- no byte is lost
abbrev pub invariant-loop-first : goal.invariant-loop-first
invariant-loop-first l =
    l.self.head.now ++ joined (parts l.self.symbols.now) ≡ l.initial.self.head.now ++ joined (parts l.initial.self.symbols.now)

abbrev pub decreases-loop-first : goal.decreases-loop-first
decreases-loop-first l = length l.self.symbols.now
