use Rattle.std.proofs.Common.{ℕ, ◌+◌, List, rules, subst, sym, take}
use Rattle.subquery_filter.specs.StepsFilter.{EndsRun}
use Rattle.subquery_filter.proofs.AroundLemmas.{front_next, front_none}
use Rattle.subquery_filter.proofs.alone.runs_of.Goals as goal

pub loop-place-init : goal.loop-place-init
loop-place-init c = (search rules, front_none _ c.new-front.result.items c.new-front.ensures.items)

pub push_run-requires : goal.push_run-requires
push_run-requires c =
    subst (λ (l : List ℕ). EndsRun (take (c.loop-place.place + 1) c.args.pieces.now) l) (sym c.as_slice.ensures.value)
    (front_next c.args.pieces.now c.loop-place.place _ c.loop-place.front.items c.pass_piece.new.front.items (search rules) (search rules) c.in_ok-pass_piece.ensures c.loop-place.invariant.1)

pub loop-place-preserved : goal.loop-place-preserved
loop-place-preserved c = (
  c.in_ok-push_run.ensures c.loop-place.invariant.0,
  front_next c.args.pieces.now c.loop-place.place _ c.loop-place.front.items c.pass_piece.new.front.items (search rules) (search rules) c.in_ok-pass_piece.ensures c.loop-place.invariant.1,
)
