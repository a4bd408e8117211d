use Rattle.std.proofs.Common.{List, ℕ}
use Rattle.std.specs.Prelude.{ℤ}
use Rattle.time_patterns.specs.Stamps.{Prints}
use Rattle.subquery_filter.proofs.AroundLemmas.{NoneBefore}
use Rattle.subquery_filter.proofs.stamps.may_lie_across.Given as goal

abbrev pub invariant-loop-len : goal.invariant-loop-len
invariant-loop-len l = (moment : ℤ) (s : List ℕ) → Prints l.pattern moment s → NoneBefore l.text s l.len
