use Rattle.subquery_filter.specs.Page.{AreMay}
use Rattle.subquery_filter.proofs.shared.PageTests.of.Given as goal

abbrev pub invariant-loop-number : goal.invariant-loop-number
invariant-loop-number l = AreMay l.tokens l.runs l.tests.spans
