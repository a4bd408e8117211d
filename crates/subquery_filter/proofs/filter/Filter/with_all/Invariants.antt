use Rattle.subquery_filter.specs.Filter.{Has}
use Rattle.subquery_filter.proofs.SlotLemmas.{GivenBefore}
use Rattle.subquery_filter.proofs.filter.Filter.with_all.Given as goal

abbrev pub invariant-loop-place : goal.invariant-loop-place
invariant-loop-place l = Has l.all l.bits × GivenBefore l.self l.words l.place l.all
