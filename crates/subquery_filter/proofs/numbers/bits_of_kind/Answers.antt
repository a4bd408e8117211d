use Rattle.std.proofs.Common.{◌≡◌, rules, subst, sym}
use Rattle.std.specs.Prelude.{Some}
use Rattle.var_codec.specs.Codes.{Codes}
use Rattle.var_codec.specs.declared.Coded.{Coded}
use Rattle.subquery_filter.specs.declared.token.Token.{Token}
use Rattle.subquery_filter.specs.Filter.{Finds}
use Rattle.subquery_filter.proofs.FilterLemmas.{each_step}
use Rattle.subquery_filter.proofs.numbers.bits_of_kind.Goals as goal

pub loop-token-preserved : goal.loop-token-preserved
loop-token-preserved c = λ coded words variable word has.
    each_step (λ (k : Token). Finds k variable) c.args.tokens.now c.loop-token.token-index c.loop-token.bits c.kind_bit-bits.result _ (search rules) c.token-item.is
    (c.kind_bit-bits.ensures (subst (λ (k : Token). (code : Coded) → k.closed ≡ Some code → Codes k.text code) (sym c.token-item.is) (coded c.loop-token.token-index _ (search rules))) words variable word has) (c.loop-token.invariant coded words variable word has)

pub returns : goal.returns
returns c = λ coded words variable word has k d lt m. c.loop-token.invariant coded words variable word has k d (search rules) m
