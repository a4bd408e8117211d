use Rattle.std.proofs.Common.{List, ℕ}
use Rattle.row_codec.specs.Means.{HasWord}
use Rattle.subquery_filter.specs.declared.token.Token.{Token}
use Rattle.subquery_filter.specs.Filter.{AreCoded, Finds}
use Rattle.subquery_filter.proofs.FilterLemmas.{EachBefore}
use Rattle.subquery_filter.proofs.numbers.bits_of_kind.Given as goal

abbrev pub invariant-loop-token : goal.invariant-loop-token
invariant-loop-token l =
    AreCoded l.tokens → (words : List (List ℕ)) (variable : List ℕ) (word : ℕ) → HasWord words l.kind variable word
    → EachBefore (λ (k : Token). Finds k variable) l.tokens l.token-index l.bits
