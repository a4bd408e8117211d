use Rattle.std.proofs.Common.{sym, subst}
use Rattle.word_places.specs.Held.{HeldNames, places_of}
use Rattle.word_places.specs.Reads.{ReadsOneOf}
use Rattle.word_places.specs.StepsHeld.{AreReadTo}
use Rattle.word_places.proofs.HeldLemmas.{read_grown}
use Rattle.word_places.proofs.held.HeldWords.hold.Goals as goal

pub read_front-self-inside-requires : goal.read_front-self-inside-requires
read_front-self-inside-requires g c =
    subst (AreReadTo c.self.inside.front) (sym c.as_slice.ensures.value)
    (read_grown c.self.inside.front c.self.inside.records.items c.hold_in-answer.new.records.items c.hold_in-answer.ensures.grow c.self.invariant.1)

pub returns-clause-reads : goal.returns-clause-reads
returns-clause-reads g c =
    subst (λ (n : HeldNames). ReadsOneOf (places_of n.records) (g.D.Disk.state c.args.disk.now) (g.D.Disk.state c.hold_in-answer.new.disk)) c.self.view_is c.hold_in-answer.ensures.reads
