use Rattle.std.proofs.Common.{◌<◌, length, ap, ◌∙◌, arith}
use Rattle.query_plan.specs.Pieces.{Free}
use Rattle.barren_segments.specs.Barren.{IsMissing}
use Rattle.subquery_filter.proofs.RuleLemmas.{each_more, flags_long, lacks_found, lacks_none, read_at, tells_not}
use Rattle.subquery_filter.proofs.rules.lacks_word.Goals as goal

pub bounds-variables-place : goal.bounds-variables-place
bounds-variables-place g c =
    let long = flags_long Free c.args.plan.now in
    omega (arith, ap length c.needed_variables-variables.ensures, ap length c.as_slice-words.ensures, ap length c.needed.ensures, long, c.loop-place-test.true)

pub returns-then-is_missing_variable : goal.returns-then-is_missing_variable
returns-then-is_missing_variable g c = λ rise distinct.
    let words = c.as_slice-words.result.now in
    let flags = c.needed_variables-variables.result.now in
    let long = flags_long Free c.args.plan.now in
    let within : c.loop-place.place < length flags =
    omega (arith, ap length c.needed_variables-variables.ensures, ap length c.as_slice-words.ensures, ap length c.needed.ensures, long, c.loop-place-test.true) in
    let here = read_at words c.loop-place.place c.as_slice.result.now c.index-words-place.result c.loop-place-test.true c.as_slice.ensures c.index-words-place.is in
    lacks_found c.args.plan.now (g.N.Names.words c.args.names.now) c.args.listed.now words flags c.loop-place.place c.as_slice.result.now
    (c.as_slice-words.ensures ∙ c.needed.ensures) c.needed_variables-variables.ensures here within
    ((c.is_missing_variable.ensures rise distinct).0 c.if-is_missing_variable.true)

pub loop-place-preserved : goal.loop-place-preserved
loop-place-preserved g c = λ rise distinct.
    let words = c.as_slice-words.result.now in
    let flags = c.needed_variables-variables.result.now in
    let known = g.N.Names.words c.args.names.now in
    let here = read_at words c.loop-place.place c.as_slice.result.now c.index-words-place.result c.loop-place-test.true c.as_slice.ensures c.index-words-place.is in
    let other = tells_not c.is_missing_variable.result (c.is_missing_variable.ensures rise distinct) c.if-is_missing_variable.false in
    each_more (λ t. ¬ IsMissing known c.args.listed.now t) words flags _ c.loop-place.place c.as_slice.result.now here (λ flag missing. other (flag, missing)) (c.loop-place.invariant rise distinct)

pub returns : goal.returns
returns g c = λ rise distinct.
    lacks_none c.args.plan.now (g.N.Names.words c.args.names.now) c.args.listed.now c.as_slice-words.result.now c.needed_variables-variables.result.now c.loop-place.place
    (c.as_slice-words.ensures ∙ c.needed.ensures) c.needed_variables-variables.ensures c.loop-place-test.false (c.loop-place.invariant rise distinct)
