use Rattle.logtype_text.specs.TypeText.{IsTypeText}
use Rattle.subquery_filter.specs.declared.token.Token.{Token}
use Rattle.subquery_filter.specs.Tokens.{StandsInType}
use Rattle.subquery_filter.proofs.FilterLemmas.{EachBefore}
use Rattle.subquery_filter.proofs.tokens.gifts_of.Given as goal

abbrev pub invariant-loop-token : goal.invariant-loop-token
invariant-loop-token l = EachBefore (λ (k : Token). IsTypeText l.text × StandsInType k.matcher.items l.text) l.tokens l.token-index l.bits
