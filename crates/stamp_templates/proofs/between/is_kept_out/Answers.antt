use Rattle.std.proofs.Common.{◌≡◌, ◌++◌, take, rules, tests, subst, inl, inr}
use Rattle.stamp_templates.specs.Laws.{IsNotAbove}
use Rattle.stamp_templates.proofs.BetweenLemmas.{stands_out}
use Rattle.stamp_templates.proofs.between.is_kept_out.Goals as goal

pub returns-then-is_below : goal.returns-then-is_below
returns-then-is_below c = λ yes.
    let text = c.args.text.now in
    let same : take c.args.at c.args.low.now ≡ take c.args.at c.args.high.now = search (rules, tests) in
    stands_out c.args.low.now c.args.high.now text c.args.at (search (rules, tests)) (search (rules, tests)) same
    (inl (λ behind. subst (λ l. ¬ IsNotAbove l (text ++ behind)) c.split_at.ensures.back (c.is_below.ensures yes behind)))

pub returns-else-is_below : goal.returns-else-is_below
returns-else-is_below c = λ yes.
    let text = c.args.text.now in
    let same : take c.args.at c.args.low.now ≡ take c.args.at c.args.high.now = search (rules, tests) in
    stands_out c.args.low.now c.args.high.now text c.args.at (search (rules, tests)) (search (rules, tests)) same
    (inr (λ behind. subst (λ h. ¬ IsNotAbove (text ++ behind) h) c.split_at-2.ensures.back (c.is_above.ensures yes behind)))
