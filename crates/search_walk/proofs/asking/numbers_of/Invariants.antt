use Rattle.search_walk.proofs.AskLemmas.{ReadTo}
use Rattle.search_walk.proofs.asking.numbers_of.Given as goal

abbrev pub invariant-loop-list : goal.invariant-loop-list
invariant-loop-list l = ReadTo l.lists l.found.items l.list-index
