use Rattle.std.proofs.Common.{◌≡◌, arith, below_more, true}
use Rattle.std.specs.Prelude.{Some, slice_get}
use Rattle.std.proofs.lemmas.Option.{slice_get_within}
use Rattle.search_walk.proofs.asking.has_variable.Goals as goal

pub loop-place-init : goal.loop-place-init
loop-place-init c = λ k lt. absurd (omega (arith, lt))

pub loop-place-preserved : goal.loop-place-preserved
loop-place-preserved c =
    below_more (λ k. ¬ (slice_get c.args.variables.now k ≡ Some true)) c.loop-place.place c.loop-place.invariant (λ is. absurd (cc (is, c.flag_at.ensures, c.if-flag_at.false)))

pub returns : goal.returns
returns c = λ _ k is. c.loop-place.invariant k (omega (arith, slice_get_within c.args.variables.now k true is, c.loop-place-test.false)) is
