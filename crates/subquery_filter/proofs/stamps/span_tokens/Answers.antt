use Rattle.std.proofs.Common.{◌≡◌, of_z, rules, to_z, w64}
use Rattle.subquery_filter.specs.declared.token.Token.{Token}
use Rattle.subquery_filter.specs.Tokens.{LiesInStamp}
use Rattle.subquery_filter.proofs.FilterLemmas.{each_step}
use Rattle.subquery_filter.proofs.stamps.span_tokens.Goals as goal

pub loop-token-preserved : goal.loop-token-preserved
loop-token-preserved c = λ moment s low high prints.
    each_step (λ (k : Token). LiesInStamp k.chunk k.text s) c.args.tokens.now c.loop-token.token-index c.loop-token.bits c.bit_between-bits.result _ (search rules) c.token-item.is (c.bit_between-bits.ensures moment s low high prints)
    (c.loop-token.invariant moment s low high prints)

pub returns : goal.returns
returns c = λ moment s low high prints k d lt m.
    let least : to_z w64 (of_z w64 c.args.least) ≡ c.args.least = search rules in
    let greatest : to_z w64 (of_z w64 c.args.greatest) ≡ c.args.greatest = search rules in
    c.loop-token.invariant moment s (rw least low) (rw greatest high) prints k d (search rules) m
