use Rattle.std.proofs.Common.{◌<◌, length, ap, ◌∙◌, arith}
use Rattle.query_plan.specs.Pieces.{Free}
use Rattle.subquery_filter.proofs.AskingLemmas.{before_next, needed_are}
use Rattle.subquery_filter.proofs.RuleLemmas.{flags_long, read_at}
use Rattle.subquery_filter.proofs.asking.constants_of.Goals as goal

pub bounds-variables-place : goal.bounds-variables-place
bounds-variables-place c =
    let long = flags_long Free c.args.plan.now in
    omega (arith, ap length c.needed_variables-variables.ensures, ap length c.as_slice-words.ensures, ap length c.needed.ensures, long, c.loop-place-test.true)

pub loop-place-preserved : goal.loop-place-preserved
loop-place-preserved c =
    let words = c.as_slice-words.result.now in
    let flags = c.needed_variables-variables.result.now in
    let long = flags_long Free c.args.plan.now in
    let within : c.loop-place.place < length flags =
    omega (arith, ap length c.needed_variables-variables.ensures, ap length c.as_slice-words.ensures, ap length c.needed.ensures, long, c.loop-place-test.true) in
    let here = read_at words c.loop-place.place c.as_slice.result.now c.index-words-place.result c.loop-place-test.true c.as_slice.ensures c.index-words-place.is in
    before_next words flags c.loop-place.place c.loop-place.constants.items c.push_constant.new.constants.items c.as_slice.result.now within here
    c.in_ok-push_constant.ensures.variable c.in_ok-push_constant.ensures.constant c.loop-place.invariant

pub returns : goal.returns
returns c =
    needed_are c.args.plan.now c.as_slice-words.result.now c.needed_variables-variables.result.now c.loop-place.place c.loop-place.constants.items
    (c.as_slice-words.ensures ∙ c.needed.ensures) c.needed_variables-variables.ensures c.loop-place-test.false c.loop-place.invariant
