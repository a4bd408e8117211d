use Rattle.std.proofs.Common.{subst, sym}
use Rattle.std.specs.Prelude.{◌∷◌, ◌≡◌, ◌↔◌}
use Rattle.query_plan.specs.Slots.{MayBegin}
use Rattle.query_plan.proofs.SlotLemmas.{left_then}
use Rattle.query_plan.proofs.slots.may_begin.Goals as goal

pub loop-first-preserved : goal.loop-first-preserved
loop-first-preserved c = λ symbols typed.
    let left = c.loop-first.left.now in
    let others = c.in-Some-past_symbol.others.now in
    let cut : left ≡ c.in-Some.first.now ∷ c.in-Some.behind.now = c.in-Some.ensures.cases.0 in
    left_then (MayBegin c.args.text.now symbols) (MayBegin left) (MayBegin others) c.loop-first.rest.now c.in-Some-first_symbol.symbol c.in-Some-first_symbol.after.now c.in-Some-first_symbol.ensures.some
    (λ more. subst (λ w. MayBegin w (c.in-Some-first_symbol.symbol ∷ more) ↔ MayBegin others more) (sym cut) (c.in-Some-past_symbol.ensures more))
    (c.loop-first.invariant symbols typed)
