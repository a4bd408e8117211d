use Rattle.std.proofs.Common.{◌<◌, length, ap, ◌∙◌, arith}
use Rattle.query_plan.specs.Pieces.{Free}
use Rattle.barren_segments.specs.Runs.{HoldsRun}
use Rattle.subquery_filter.proofs.RuleLemmas.{each_more, flags_long, holds_all, holds_not, read_at}
use Rattle.subquery_filter.proofs.rules.holds_constants.Goals as goal

pub bounds-variables-place : goal.bounds-variables-place
bounds-variables-place c =
    let long = flags_long Free c.args.plan.now in
    omega (arith, ap length c.needed_variables-variables.ensures, ap length c.as_slice-words.ensures, ap length c.needed.ensures, long, c.loop-place-test.true)

pub returns-then-not-needs_no_more : goal.returns-then-not-needs_no_more
returns-then-not-needs_no_more c =
    let words = c.as_slice-words.result.now in
    let flags = c.needed_variables-variables.result.now in
    let long = flags_long Free c.args.plan.now in
    let within : c.loop-place.place < length flags =
    omega (arith, ap length c.needed_variables-variables.ensures, ap length c.as_slice-words.ensures, ap length c.needed.ensures, long, c.loop-place-test.true) in
    let here = read_at words c.loop-place.place c.as_slice.result.now c.index-words-place.result c.loop-place-test.true c.as_slice.ensures c.index-words-place.is in
    holds_not c.args.plan.now c.args.text.now words flags c.loop-place.place c.as_slice.result.now c.needs_no_more.result
    (c.as_slice-words.ensures ∙ c.needed.ensures) c.needed_variables-variables.ensures here within c.needs_no_more.ensures c.if-not-needs_no_more.true

pub loop-place-preserved : goal.loop-place-preserved
loop-place-preserved c =
    let words = c.as_slice-words.result.now in
    let flags = c.needed_variables-variables.result.now in
    let here = read_at words c.loop-place.place c.as_slice.result.now c.index-words-place.result c.loop-place-test.true c.as_slice.ensures c.index-words-place.is in
    each_more (λ t. HoldsRun c.args.text.now t) words flags _ c.loop-place.place c.as_slice.result.now here (c.needs_no_more.ensures.0 c.if-not-needs_no_more.false) c.loop-place.invariant

pub returns : goal.returns
returns c =
    holds_all c.args.plan.now c.args.text.now c.as_slice-words.result.now c.needed_variables-variables.result.now c.loop-place.place
    (c.as_slice-words.ensures ∙ c.needed.ensures) c.needed_variables-variables.ensures c.loop-place-test.false c.loop-place.invariant
