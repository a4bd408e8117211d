use Rattle.std.proofs.Common.{rules, arith}
use Rattle.archive_open.proofs.KeptLemmas.{walk_begun, walk_ended, walk_on, walk_over, walk_refused, walk_short}
use Rattle.archive_open.proofs.grown.add_texts.Goals as goal

pub returns-in_default-clause-refused : goal.returns-in_default-clause-refused
returns-in_default-clause-refused g c = λ no texts are is may.
    walk_short c.args.kind _ _ c.args.count c.args.bytes.now c.loop.rest.now c.loop.counter c.loop.invariant (omega arith) (omega arith) (c.in_default.ensures.none (search rules)) texts are is

pub returns-then-not-branch-clause-refused : goal.returns-then-not-branch-clause-refused
returns-then-not-branch-clause-refused g c = λ no.
    walk_refused c.args.kind (g.K.KeepsTexts.kept c.args.names.now) (g.K.KeepsTexts.kept c.loop.names) c.args.count c.args.bytes.now c.loop.rest.now c.loop.counter
    c.in-Some.text.now c.in-Some.after.now c.loop.invariant (omega arith) (omega arith) c.in-Some.ensures.fits c.in-Some.ensures.some (c.in_ok-add.ensures.refused (search rules))

pub loop-init : goal.loop-init
loop-init g c = walk_begun c.args.kind (g.K.KeepsTexts.kept c.args.names.now) c.args.count c.args.bytes.now

pub loop-preserved : goal.loop-preserved
loop-preserved g c =
    walk_on c.args.kind (g.K.KeepsTexts.kept c.args.names.now) (g.K.KeepsTexts.kept c.loop.names) (g.K.KeepsTexts.kept c.add.new.self) c.args.count c.args.bytes.now c.loop.rest.now c.loop.counter
    c.in-Some.text.now c.in-Some.after.now c.loop.invariant c.in-Some.ensures.fits c.in-Some.ensures.some (c.in_ok-add.ensures.added (search rules))

pub returns-clause-refused : goal.returns-clause-refused
returns-clause-refused g c = λ no texts are is may.
    walk_over c.args.kind _ _ c.args.count c.args.bytes.now c.loop.rest.now c.loop.counter c.loop.invariant (omega arith) (omega arith) (search (rules, no)) texts are is

pub returns-clause-added : goal.returns-clause-added
returns-clause-added g c = λ yes.
    walk_ended c.args.kind (g.K.KeepsTexts.kept c.args.names.now) (g.K.KeepsTexts.kept c.loop.names) c.args.count c.args.bytes.now c.loop.rest.now c.loop.counter
    c.loop.invariant (omega arith) (omega arith) (search (rules, yes))
