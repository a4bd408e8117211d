use Rattle.std.proofs.Common.{◌≡◌, ◌++◌, arith, length, refl, rules}
use Rattle.std.proofs.lemmas.List.{nil_from_length}
use Rattle.record_format.specs.Lists.{four_bytes}
use Rattle.record_format.proofs.ListLemmas.{left_over, no_text}
use Rattle.word_places.proofs.TakenLemmas.{not_spelled, took_all, took_more, took_none}
use Rattle.word_places.proofs.taking.take_each.Goals as goal

pub loop-init : goal.loop-init
loop-init g c = took_none (g.V.TakesTexts.took c.args.taker.now) c.args.count c.args.bytes.now c.args.taker.now (g.met.V.TakesTexts.none c.args.taker.now)

pub returns-in_default-clause-none : goal.returns-in_default-clause-none
returns-in_default-clause-none g c = λ _.
    not_spelled c.args.count c.args.bytes.now
    (no_text (four_bytes c.args.count ++ c.args.bytes.now) c.args.count c.loop.invariant.texts c.loop.rest.now c.loop.invariant.read (omega arith) (omega (arith, c.loop.invariant.many)) (c.in_default.ensures.none refl))

pub loop-preserved : goal.loop-preserved
loop-preserved g c =
    took_more g.V.TakesTexts.took c.args.taker.now c.loop.taker c.take.new.self c.args.count c.args.bytes.now c.in-Some.text.now c.loop.rest.now c.in-Some.after.now c.loop.counter g.met.V.TakesTexts.both
    c.loop.invariant c.in-Some.ensures.fits c.in-Some.ensures.some c.in_ok-take.ensures

pub returns-clause-taken : goal.returns-clause-taken
returns-clause-taken g c = λ is.
    let empty : length c.loop.rest.now ≡ 0 = search rules in
    took_all (g.V.TakesTexts.took c.args.taker.now) c.args.count c.args.bytes.now c.loop.counter c.loop.rest.now c.loop.taker (omega arith) c.loop.invariant (omega arith) (nil_from_length c.loop.rest.now empty)

pub returns-clause-none : goal.returns-clause-none
returns-clause-none g c = λ is.
    not_spelled c.args.count c.args.bytes.now
    (left_over (four_bytes c.args.count ++ c.args.bytes.now) c.args.count c.loop.invariant.texts c.loop.rest.now c.loop.invariant.read (omega arith) (omega (arith, c.loop.invariant.many)) (search rules))
