use Rattle.subquery_filter.proofs.tokens.has_digit.Given as goal

abbrev pub invariant-loop-byte : goal.invariant-loop-byte
invariant-loop-byte l = Unit {0}
