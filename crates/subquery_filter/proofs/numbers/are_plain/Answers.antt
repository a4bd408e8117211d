use Rattle.std.proofs.Common.{◌≡◌, true, rules}
use Rattle.std.specs.Prelude.{None}
use Rattle.subquery_filter.specs.declared.token.Token.{Token}
use Rattle.subquery_filter.specs.NumberText.{is_number_part, is_plain}
use Rattle.subquery_filter.proofs.FilterLemmas.{before_step}
use Rattle.subquery_filter.proofs.numbers.are_plain.Goals as goal

pub loop-token-preserved : goal.loop-token-preserved
loop-token-preserved c =
    let plain = λ (k : Token). k.closed ≡ None → is_number_part true k.text ≡ true → is_plain k.text ≡ true in
    before_step c.args.tokens.now plain plain c.loop-token.token-index c.token-item.result (search rules) c.token-item.is (λ k h. h) (c.is_pointed.ensures c.if-is_pointed.false) c.loop-token.invariant
