use Rattle.std.proofs.Common.{◌≡◌, rules}
use Rattle.std.specs.Prelude.{None}
use Rattle.wild_match.specs.Matches.{Match}
use Rattle.subquery_filter.specs.declared.token.Token.{Token}
use Rattle.subquery_filter.proofs.FilterLemmas.{each_step}
use Rattle.subquery_filter.proofs.tokens.open_marks.Goals as goal

pub loop-token-preserved : goal.loop-token-preserved
loop-token-preserved c =
    each_step (λ (k : Token). (k.closed ≡ None) × Match k.matcher.items c.args.text.now) c.args.tokens.now c.loop-token.token-index c.loop-token.bits c.open_mark-bits.result _ (search rules) c.token-item.is
    (λ both. c.open_mark-bits.ensures both.0 both.1) c.loop-token.invariant

pub returns : goal.returns
returns c = λ k d lt free m. c.loop-token.invariant k d (search rules) (free, m)
