use Rattle.std.proofs.Common.{List, ℕ, refl, subst}
use Rattle.std.specs.Prelude.{◌↔◌, All, IsTrue}
use Rattle.barren_segments.specs.Runs.{HoldsRun}
use Rattle.subquery_filter.proofs.AskingLemmas.{asked_next}
use Rattle.subquery_filter.proofs.asking.Asking.add.Goals as goal

pub returns-clause-asked : goal.returns-clause-asked
returns-clause-asked c = λ ps f types has.
    let old = c.args.self.now in
    let text = c.args.text.now in
    let tested = c.in_ok-tested.tested in
    let told = c.in_ok-tested.ensures in
    let tells = subst (λ (l : List (List ℕ)). IsTrue c.holds_all-has_all.result ↔ All (λ (w : List ℕ). HoldsRun text w) l) c.as_slice.ensures.value c.holds_all-has_all.ensures in
    asked_next ps types old _ text tested.test tested.alone c.verdict_by-verdict.result c.holds_all-has_all.result refl refl
    c.in_ok-push.ensures.items c.in_ok-push-2.ensures.items c.in_ok-push-3.ensures.items c.in_ok-push-4.ensures.items
    told.stays told.test told.alone c.verdict_by-verdict.ensures tells f has
