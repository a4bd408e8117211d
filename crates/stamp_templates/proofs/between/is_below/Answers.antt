use Rattle.std.proofs.Common.{◌<◌, rules, tests}
use Rattle.std.specs.Prelude.{slice_index}
use Rattle.stamp_templates.proofs.BetweenLemmas.{front_below}
use Rattle.stamp_templates.proofs.between.is_below.Goals.{then-place-text, else-place-text}
use Rattle.stamp_templates.proofs.between.is_below.Goals as goal

pub returns-then-place-other : goal.returns-then-place-other
returns-then-place-other c = λ yes behind is.
    let text = c.args.text.now in
    let other = c.args.other.now in
    let place = c.same_front-place.result in
    let differs : slice_index text place < slice_index other place = search (rules, tests) in
    elim c.if-place-text.branch [
      | then-place-text w ↦ front_below text other behind place c.same_front-place.ensures.same (search (rules, tests)) (search (rules, tests)) differs is
      | else-place-text w ↦ absurd (search (rules, tests))
    ]
