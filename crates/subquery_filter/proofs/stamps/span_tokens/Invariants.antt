use Rattle.std.proofs.Common.{List, ℕ}
use Rattle.std.specs.Prelude.{ℤ, ◌≤ℤ◌}
use Rattle.time_patterns.specs.Stamps.{Prints}
use Rattle.subquery_filter.specs.declared.token.Token.{Token}
use Rattle.subquery_filter.proofs.FilterLemmas.{EachBefore}
use Rattle.subquery_filter.specs.Tokens.{LiesInStamp}
use Rattle.subquery_filter.proofs.stamps.span_tokens.Given as goal

abbrev pub invariant-loop-token : goal.invariant-loop-token
invariant-loop-token l =
    (moment : ℤ) (s : List ℕ) → l.least ≤ℤ moment → moment ≤ℤ l.greatest → Prints l.pattern moment s
    → EachBefore (λ (k : Token). LiesInStamp k.chunk k.text s) l.tokens l.token-index l.bits
