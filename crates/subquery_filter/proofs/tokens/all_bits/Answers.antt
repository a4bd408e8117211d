use Rattle.std.proofs.Common.{arith, rules, refl}
use Rattle.subquery_filter.specs.declared.token.Token.{Token}
use Rattle.subquery_filter.proofs.BitLemmas.{has_none}
use Rattle.subquery_filter.proofs.FilterLemmas.{each_step, wanted_step}
use Rattle.subquery_filter.proofs.tokens.all_bits.Goals as goal

pub loop-token-init : goal.loop-token-init
loop-token-init c = (λ k d lt one. absurd (omega (arith, lt)), λ all each. has_none all)

pub loop-token-preserved : goal.loop-token-preserved
loop-token-preserved c = (
  each_step (λ (k : Token). Unit {0}) c.args.tokens.now c.loop-token.token-index c.loop-token.bits _ _ (search rules) c.token-item.is (λ one. refl) c.loop-token.invariant.0,
  wanted_step c.args.tokens.now c.loop-token.token-index c.loop-token.bits _ c.token-item.is c.loop-token.invariant.1,
)

pub returns-clause-each : goal.returns-clause-each
returns-clause-each c = λ k d lt. c.loop-token.invariant.0 k d (search rules) tt

pub returns-clause-only : goal.returns-clause-only
returns-clause-only c = λ all each. c.loop-token.invariant.1 all (λ k d lt. each k d (search rules))
