use Rattle.subquery_filter.specs.StepsKnown.{AreLookedUp}
use Rattle.subquery_filter.proofs.known.known_words.Given as goal

abbrev pub invariant-loop-place : goal.invariant-loop-place
invariant-loop-place g l = AreLookedUp (g.N.Names.words l.names) l.known.items
