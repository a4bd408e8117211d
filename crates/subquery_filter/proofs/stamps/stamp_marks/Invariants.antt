use Rattle.subquery_filter.specs.declared.token.Token.{Token}
use Rattle.subquery_filter.specs.Tokens.{LiesInStamp}
use Rattle.subquery_filter.proofs.FilterLemmas.{EachBefore}
use Rattle.subquery_filter.proofs.stamps.stamp_marks.Given as goal

abbrev pub invariant-loop-token : goal.invariant-loop-token
invariant-loop-token l = EachBefore (λ (k : Token). LiesInStamp k.chunk k.text l.stamp) l.tokens l.token-index l.bits
