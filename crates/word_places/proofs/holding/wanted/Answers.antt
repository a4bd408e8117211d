use Rattle.std.proofs.Common.{subst}
use Rattle.std.proofs.lemmas.Option.{slice_get_within}
use Rattle.word_places.specs.StepsHeld.{TellsRead}
use Rattle.word_places.proofs.HeldLemmas.{not_read, read_is_held}
use Rattle.word_places.proofs.holding.wanted.Goals as goal

pub is_read-requires : goal.is_read-requires
is_read-requires c = slice_get_within c.args.records.now c.in_ok-at.at c.in_ok-at.ensures.some.0 c.in_ok-at.ensures.some.1

pub returns-then-is_read-clause-none : goal.returns-then-is_read-clause-none
returns-then-is_read-clause-none c = λ is_none within.
    let r = c.in_ok-at.ensures.some in
    read_is_held c.args.records.now c.in_ok-at.at c.args.number r.0 r.1 r.2 (subst (TellsRead c.args.records.now c.in_ok-at.at) c.if-is_read.true c.is_read.ensures)

pub returns-clause-some : goal.returns-clause-some
returns-clause-some c =
    let r = c.in_ok-at.ensures.some in
    (r.0, r.1, r.2, not_read c.args.records.now c.in_ok-at.at r.0 r.1 (subst (TellsRead c.args.records.now c.in_ok-at.at) c.if-is_read.false c.is_read.ensures))
