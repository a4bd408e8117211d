use Rattle.std.proofs.Common.{◌≡◌, ◌<◌, length, ap, ◌∙◌, arith, subst, sym}
use Rattle.query_plan.specs.Needs.{needed_variables_of}
use Rattle.query_plan.specs.Pieces.{Free, needed_of}
use Rattle.barren_segments.specs.Barren.{IsMissing}
use Rattle.subquery_filter.specs.Found.{AreNumbers}
use Rattle.subquery_filter.proofs.RuleLemmas.{each_more, flags_long, found_number, lacks_found, lacks_none, read_at, tells_not}
use Rattle.subquery_filter.proofs.rules.lacks_found.Goals as goal

pub bounds-variables-place : goal.bounds-variables-place
bounds-variables-place c =
    let long = flags_long Free c.args.plan.now in
    omega (arith, ap length c.needed_variables-variables.ensures, ap length c.as_slice-words.ensures, ap length c.needed.ensures, long, c.loop-place-test.true)

pub number_at-number-requires : goal.number_at-number-requires
number_at-number-requires c = omega (arith, c.requires, ap length c.as_slice-words.ensures, ap length c.needed.ensures, c.loop-place-test.true)

pub returns-then-is_unlisted_variable : goal.returns-then-is_unlisted_variable
returns-then-is_unlisted_variable c = λ known rise distinct numbers.
    let words = c.as_slice-words.result.now in
    let flags = c.needed_variables-variables.result.now in
    let long = flags_long Free c.args.plan.now in
    let within : c.loop-place.place < length flags =
    omega (arith, ap length c.needed_variables-variables.ensures, ap length c.as_slice-words.ensures, ap length c.needed.ensures, long, c.loop-place-test.true) in
    let here = read_at words c.loop-place.place c.as_slice.result.now c.index-words-place.result c.loop-place-test.true c.as_slice.ensures c.index-words-place.is in
    let needed : words ≡ needed_of Free c.args.plan.now = c.as_slice-words.ensures ∙ c.needed.ensures in
    let variables = subst (λ l. AreNumbers known words l c.args.found.now) (sym c.needed_variables-variables.ensures) (subst (λ l. AreNumbers known l (needed_variables_of Free c.args.plan.now) c.args.found.now) (sym needed) numbers) in
    let number = found_number known words flags c.args.found.now c.loop-place.place c.as_slice.result.now c.number_at-number.result here within c.number_at-number.ensures variables in
    lacks_found c.args.plan.now known c.args.listed.now words flags c.loop-place.place c.as_slice.result.now
    needed c.needed_variables-variables.ensures here within
    ((c.is_unlisted_variable.ensures known rise distinct number).0 c.if-is_unlisted_variable.true)

pub loop-place-preserved : goal.loop-place-preserved
loop-place-preserved c = λ known rise distinct numbers.
    let words = c.as_slice-words.result.now in
    let flags = c.needed_variables-variables.result.now in
    let long = flags_long Free c.args.plan.now in
    let within : c.loop-place.place < length flags =
    omega (arith, ap length c.needed_variables-variables.ensures, ap length c.as_slice-words.ensures, ap length c.needed.ensures, long, c.loop-place-test.true) in
    let needed : words ≡ needed_of Free c.args.plan.now = c.as_slice-words.ensures ∙ c.needed.ensures in
    let here = read_at words c.loop-place.place c.as_slice.result.now c.index-words-place.result c.loop-place-test.true c.as_slice.ensures c.index-words-place.is in
    let variables = subst (λ l. AreNumbers known words l c.args.found.now) (sym c.needed_variables-variables.ensures) (subst (λ l. AreNumbers known l (needed_variables_of Free c.args.plan.now) c.args.found.now) (sym needed) numbers) in
    let number = found_number known words flags c.args.found.now c.loop-place.place c.as_slice.result.now c.number_at-number.result here within c.number_at-number.ensures variables in
    let other = tells_not c.is_unlisted_variable.result (c.is_unlisted_variable.ensures known rise distinct number) c.if-is_unlisted_variable.false in
    each_more (λ t. ¬ IsMissing known c.args.listed.now t) words flags _ c.loop-place.place c.as_slice.result.now here (λ flag missing. other (flag, missing)) (c.loop-place.invariant known rise distinct numbers)

pub returns : goal.returns
returns c = λ known rise distinct numbers.
    lacks_none c.args.plan.now known c.args.listed.now c.as_slice-words.result.now c.needed_variables-variables.result.now c.loop-place.place
    (c.as_slice-words.ensures ∙ c.needed.ensures) c.needed_variables-variables.ensures c.loop-place-test.false (c.loop-place.invariant known rise distinct numbers)
