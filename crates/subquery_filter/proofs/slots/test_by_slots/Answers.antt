use Rattle.std.proofs.Common.{◌≡◌, length, refl, rules, subst}
use Rattle.subquery_filter.specs.Filter.{AreSlots}
use Rattle.subquery_filter.specs.StepsFilter.{AreSummed}
use Rattle.subquery_filter.proofs.FilterLemmas.{closed_is, open_is}
use Rattle.subquery_filter.proofs.SlotLemmas.{sums_listed}
use Rattle.subquery_filter.proofs.slots.test_by_slots.Goals as goal

pub returns-then-ne-clause-test : goal.returns-then-ne-clause-test
returns-then-ne-clause-test c = λ ps tokens q gives.
    closed_is ps tokens c.args.question.now.others c.args.slots.now.items c.args.text.now c.closed_test.result c.text_verdict-verdict.result c.closed_test.ensures (search rules) (c.text_verdict-verdict.ensures ps tokens q)

pub returns-then-first-ge-MOST_SLOTS-clause-test : goal.returns-then-first-ge-MOST_SLOTS-clause-test
returns-then-first-ge-MOST_SLOTS-clause-test c = λ ps tokens q gives. c.unlisted_test.ensures ps tokens c.args.question.now.others c.args.slots.now.items c.args.text.now gives q.kinds

pub returns-clause-test : goal.returns-clause-test
returns-clause-test c = λ ps tokens q gives.
    let text = c.args.text.now in
    let slots = c.list_slots.new.slots.items in
    let first = length c.args.slots.now.items in
    let last = length slots in
    let first_is : first ≡ c.len-first.result = search rules in
    let end_is : last ≡ c.len-end.result = search rules in
    let listed : AreSlots tokens text slots first last c.args.known = c.in_ok-list_slots.ensures.listed tokens q.kinds in
    let so : AreSlots tokens text slots c.len-first.result last c.args.known = subst (λ n. AreSlots tokens text slots n last c.args.known) first_is listed in
    let summed : AreSummed slots c.len-first.result last c.sums_from.result = rw (c.as_slice.ensures.value) at c.sums_from.ensures in
    open_is ps tokens c.args.question.now.others slots text _ refl gives (subst (λ n. AreSlots tokens text slots c.len-first.result n c.args.known) end_is so)
    (sums_listed tokens text slots c.len-first.result last c.args.known c.sums_from.result so summed)
