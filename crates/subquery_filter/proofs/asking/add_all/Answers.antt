use Rattle.std.proofs.Common.{take}
use Rattle.subquery_filter.proofs.AskingLemmas.{asked_take}
use Rattle.subquery_filter.proofs.asking.add_all.Goals as goal

pub loop-number-init : goal.loop-number-init
loop-number-init g c = λ ps f has. has

pub loop-number-preserved : goal.loop-number-preserved
loop-number-preserved g c = λ ps f has.
    let l = c.loop-number in
    let types = g.N.Names.types c.args.names.now in
    asked_take ps f types l.number c.in-Some.text.now c.add.new.self c.in-Some.ensures (c.in_ok-add.ensures.asked ps f (take l.number types) (l.invariant ps f has))

pub returns : goal.returns
returns g c = λ ps f has. (c.loop-number.number, c.loop-number.invariant ps f has)
