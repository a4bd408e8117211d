use Rattle.std.proofs.Common.{subst}
use Rattle.row_codec.specs.StepsBody.{HasBody}
use Rattle.row_codec.proofs.BodyLemmas.{at_none, at_some, puts_end, puts_has, puts_more, puts_stuck}
use Rattle.row_codec.proofs.expanding.put_body.Goals as goal

pub loop-symbol-init : goal.loop-symbol-init
loop-symbol-init g c = c.in_ok-rest.ensures.put (g.N.Names.words c.args.names.now) c.args.words.now

pub loop-symbol-preserved : goal.loop-symbol-preserved
loop-symbol-preserved g c =
    let words = g.N.Names.words c.args.names.now in
    let after = c.in-Some.after.now in
    let others = c.in-Some-2.others in
    let put = at_some c.in_ok-others.field-0 _ others c.in_ok-others.ensures.put c.in-Some-2.is in
    puts_more words c.args.text.now c.args.words.now c.loop-symbol.rest.now c.loop-symbol.left.now c.in-Some.symbol after others.now c.in_ok-rest-2.rest.now c.args.out.now.items c.loop-symbol.out.items c.put_symbol.new.out.items
    c.put_plain-in-Some.new.out.items c.in-Some.ensures.some c.loop-symbol.invariant (put after) (c.in_ok-rest-2.ensures.put words others.now)

pub returns-in_default-2-clause-misfit : goal.returns-in_default-2-clause-misfit
returns-in_default-2-clause-misfit g c = λ no has.
    let words = g.N.Names.words c.args.names.now in
    let none = at_none c.in_ok-others.field-0 c.in_ok-others.ensures.none c.in_default-2.is in
    let left = puts_has words c.args.text.now c.args.words.now c.loop-symbol.rest.now c.loop-symbol.left.now c.args.out.now.items c.loop-symbol.out.items c.loop-symbol.invariant has in
    none c.in-Some.after.now (subst (λ t. HasBody words t c.loop-symbol.left.now) c.in-Some.ensures.some left)

pub returns-clause-written : goal.returns-clause-written
returns-clause-written g c = λ yes.
    puts_end (g.N.Names.words c.args.names.now) c.args.text.now c.args.words.now c.loop-symbol.rest.now c.loop-symbol.left.now c.args.out.now.items c.loop-symbol.out.items
    (c.ends.ensures.0 yes) c.loop-symbol.invariant

pub returns-clause-misfit : goal.returns-clause-misfit
returns-clause-misfit g c = λ no has.
    let yes = c.ends.ensures.1 (puts_stuck (g.N.Names.words c.args.names.now) c.args.text.now c.args.words.now c.loop-symbol.rest.now c.loop-symbol.left.now c.args.out.now.items c.loop-symbol.out.items
    c.in_default.ensures.none c.loop-symbol.invariant has) in
    absurd (cc (yes, no))
