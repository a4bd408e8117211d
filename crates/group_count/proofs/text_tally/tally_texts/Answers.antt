use Rattle.std.proofs.Common.{◌≡◌, ◌≤◌, ℕ, List, length, IsErrOf, arith, rules, ap, ◌∙◌}
use Rattle.group_count.specs.StepsTypes.{often_below}
use Rattle.group_count.specs.Tables.{some_of}
use Rattle.group_count.specs.declared.refusal.TableRefusal.TheVariants.{Damaged}
use Rattle.group_count.proofs.TypeLemmas.{often_more, often_fits, often_all, none_without_text, none_begun}
use Rattle.group_count.proofs.text_tally.tally_texts.Goals as goal

pub loop-place-init : goal.loop-place-init
loop-place-init c = λ numbers are numbered. none_begun c.args.types.now.texts numbers c.args.tally.now c.requires.nothing

pub loop-place-preserved : goal.loop-place-preserved
loop-place-preserved c = λ numbers are numbered key.
    let types = c.args.types.now.texts in
    let counts = c.args.counts.now in
    let place = c.loop-place.place in
    c.in_ok-add_text.ensures.added (λ (q : List ℕ). often_below types q place numbers) (λ q. often_fits types counts numbers are numbered q place)
    (c.loop-place.invariant numbers are numbered) key
    ∙ ap some_of (often_more types counts numbers are numbered key.now place)

pub returns-in_err-add_text-clause-damaged : goal.returns-in_err-add_text-clause-damaged
returns-in_err-add_text-clause-damaged c = λ is numbers are numbered.
    let damaged : IsErrOf c.add_text.result Damaged = search rules in
    let above : length c.args.types.now.texts ≤ c.loop-place.place = search (rules, c.add_text.ensures.none damaged) in
    let none = none_without_text c.args.types.now.texts c.args.counts.now numbers are numbered c.loop-place.place above in
    omega (arith, none, c.add_text.ensures.some damaged)

pub returns-clause-tally : goal.returns-clause-tally
returns-clause-tally c = λ numbers are numbered key.
    let end : c.loop-place.place ≡ length c.args.counts.now = omega arith in
    rw end at (c.loop-place.invariant numbers are numbered key) ∙ ap some_of (often_all c.args.types.now.texts c.args.counts.now numbers are numbered key.now)
