use Rattle.subquery_filter.proofs.AroundLemmas.{NoneBefore}
use Rattle.subquery_filter.proofs.stamps.lies_across.Given as goal

abbrev pub invariant-loop-len : goal.invariant-loop-len
invariant-loop-len l = NoneBefore l.text l.stamp l.len
