use Rattle.std.proofs.Common.{◌≡◌, length}
use Rattle.subquery_filter.specs.NumberText.{is_digits}
use Rattle.subquery_filter.proofs.number_text.is_digits.Given as goal

abbrev pub invariant-loop-first : goal.invariant-loop-first
invariant-loop-first l = is_digits l.point l.rest ≡ is_digits l.fn.point l.fn.text

abbrev pub decreases-loop-first : goal.decreases-loop-first
decreases-loop-first l = length l.rest
