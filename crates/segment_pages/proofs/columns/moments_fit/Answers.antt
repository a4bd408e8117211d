use Rattle.std.proofs.Common.{rules, pos, below_more, arith}
use Rattle.std.specs.Int.{w64}
use Rattle.std.specs.Int.RustNames.{FitsSigned}
use Rattle.std.proofs.lemmas.List.Elements.{All-from_get_or}
use Rattle.segment_pages.proofs.columns.moments_fit.Goals as goal

pub loop-moment-preserved : goal.loop-moment-preserved
loop-moment-preserved c = below_more _ _ c.loop-moment.invariant (search rules)

pub returns : goal.returns
returns c = All-from_get_or (λ m. FitsSigned w64 m) c.args.moments.now (pos 0) (λ k lt. c.loop-moment.invariant k (omega arith))
