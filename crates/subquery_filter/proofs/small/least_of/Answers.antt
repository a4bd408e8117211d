use Rattle.std.proofs.Common.{arith, rules}
use Rattle.subquery_filter.specs.declared.token.Token.{Token}
use Rattle.subquery_filter.specs.StepsFilter.{NoneBelow}
use Rattle.subquery_filter.proofs.FilterLemmas.{before_step}
use Rattle.subquery_filter.proofs.small.least_of.Goals as goal

pub loop-token-preserved : goal.loop-token-preserved
loop-token-preserved c =
    before_step c.args.tokens.now (λ (k : Token). NoneBelow k c.loop-token.least) (λ (k : Token). NoneBelow k c.min-least.result) c.loop-token.token-index c.token-item.result (search rules) c.token-item.is
    (λ k none n below. none n (omega (arith, below, c.min-least.ensures))) (λ n below. c.least_for.ensures n (omega (arith, below, c.min-least.ensures))) c.loop-token.invariant

pub returns : goal.returns
returns c = λ n below k d lt free m. absurd (c.loop-token.invariant k d (search rules) n below free m)
