use Rattle.std.proofs.Common.{rules}
use Rattle.query_plan.specs.StepsOfMatching.{here}
use Rattle.query_plan.proofs.LetterLemmas.{front_then, no_letter, other_letter, byte_front, any_front}
use Rattle.query_plan.proofs.letters.after_chunk.Goals as goal

pub loop-first-init : goal.loop-first-init
loop-first-init g c = here

pub returns-in_err-letter-clause-none : goal.returns-in_err-letter-clause-none
returns-in_err-letter-clause-none g c =
    let l = c.loop-first in
    rw c.from_residual.ensures
    (no_letter c.args.items.now (g.T.Letters.rest c.args.start) c.in-Some.first.now c.in-Some.behind.now l.rest.now (g.T.Letters.rest l.text)
    l.invariant (search rules) (search rules) (search rules))

pub returns-then-byte-letter-clause-none : goal.returns-then-byte-letter-clause-none
returns-then-byte-letter-clause-none g c =
    let l = c.loop-first in
    other_letter c.args.items.now (g.T.Letters.rest c.args.start) c.in-Some.first.now c.in-Some.behind.now l.rest.now (g.T.Letters.rest l.text)
    (g.T.Letters.rest c.letter.new.self) c.in-Byte.byte c.in_ok-letter.letter l.invariant (search rules) (search rules) (search rules) (search rules)

pub loop-first-preserved-else-byte-letter : goal.loop-first-preserved-else-byte-letter
loop-first-preserved-else-byte-letter g c =
    let l = c.loop-first in
    front_then l.invariant
    (byte_front c.in-Some.first.now c.in-Some.behind.now l.rest.now (g.T.Letters.rest l.text) (g.T.Letters.rest c.letter.new.self)
    c.in-Byte.byte c.in_ok-letter.letter (search rules) (search rules) (search rules) (search rules))

pub loop-first-preserved : goal.loop-first-preserved
loop-first-preserved g c =
    let l = c.loop-first in
    front_then l.invariant
    (any_front c.in-Some.first.now c.in-Some.behind.now l.rest.now (g.T.Letters.rest l.text) (g.T.Letters.rest c.letter.new.self)
    c.in_ok-letter.letter (search rules) (search rules) (search rules) (search rules))
