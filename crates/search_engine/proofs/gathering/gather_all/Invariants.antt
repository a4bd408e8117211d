use Rattle.std.proofs.Common.{◌≡◌}
use Rattle.search_engine.specs.Sofar.{sofar}
use Rattle.search_engine.proofs.SlotLemmas.{Gathered}
use Rattle.search_engine.proofs.gathering.gather_all.Given as goal

abbrev pub invariant-loop-slot : goal.invariant-loop-slot
invariant-loop-slot g l =
    Gathered l.slots l.slot-index (sofar (g.K.Sink.written l.fn.out) l.fn.gathered.items l.fn.counts l.fn.expanded) (sofar (g.K.Sink.written l.out) l.gathered.items l.counts l.expanded)
    × (g.K.Sink.faults l.out ≡ g.K.Sink.faults l.fn.out)
