use Rattle.barren_segments.specs.Barren.{HasConstants}
use Rattle.subquery_filter.proofs.RuleLemmas.{NoneBefore}
use Rattle.subquery_filter.proofs.rules.lacks_types.Given as goal

abbrev pub invariant-loop-place : goal.invariant-loop-place
invariant-loop-place g l = NoneBefore (HasConstants l.fn.plan (g.N.Names.types l.fn.names)) l.fn.types l.place
