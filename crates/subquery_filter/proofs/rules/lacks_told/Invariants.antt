use Rattle.std.proofs.Common.{◌≡◌, true}
use Rattle.std.specs.Prelude.{Some, slice_get}
use Rattle.subquery_filter.proofs.RuleLemmas.{NoneBefore}
use Rattle.subquery_filter.proofs.rules.lacks_told.Given as goal

abbrev pub invariant-loop-place : goal.invariant-loop-place
invariant-loop-place l = NoneBefore (λ t. slice_get l.fn.constants t ≡ Some true) l.fn.types l.place
