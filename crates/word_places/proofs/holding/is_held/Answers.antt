use Rattle.std.proofs.Common.{subst}
use Rattle.std.proofs.lemmas.Option.{slice_get_within}
use Rattle.word_places.specs.StepsHeld.{TellsRead}
use Rattle.word_places.proofs.HeldLemmas.{read_is_held}
use Rattle.word_places.proofs.holding.is_held.Goals as goal

pub is_read-requires : goal.is_read-requires
is_read-requires c = slice_get_within c.args.records.now c.in-Some.at c.in-Some.ensures.some.0 c.in-Some.ensures.some.1

pub returns-in-Some : goal.returns-in-Some
returns-in-Some c = λ is.
    let r = c.in-Some.ensures.some in
    read_is_held c.args.records.now c.in-Some.at c.args.number r.0 r.1 r.2 (subst (TellsRead c.args.records.now c.in-Some.at) is c.is_read.ensures)
