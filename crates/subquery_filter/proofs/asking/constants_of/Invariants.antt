use Rattle.subquery_filter.proofs.AskingLemmas.{ConstantsBefore}
use Rattle.subquery_filter.proofs.asking.constants_of.Given as goal

abbrev pub invariant-loop-place : goal.invariant-loop-place
invariant-loop-place l = ConstantsBefore l.words l.variables l.place l.constants.items
