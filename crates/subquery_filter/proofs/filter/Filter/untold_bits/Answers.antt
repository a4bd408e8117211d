use Rattle.std.proofs.Common.{List, subst}
use Rattle.subquery_filter.specs.declared.token.Token.{Token}
use Rattle.subquery_filter.specs.Filter.{AreOpenBits}
use Rattle.subquery_filter.proofs.filter.Filter.untold_bits.Goals as goal

pub returns : goal.returns
returns c = λ none. subst (λ (l : List Token). AreOpenBits l c.open_bits.result) c.as_slice.ensures.value c.open_bits.ensures
