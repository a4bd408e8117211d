use Rattle.std.proofs.Common.{◌≡◌}
use Rattle.log_seams.specs.Disk.{Rests}
use Rattle.word_places.specs.Reads.{ReadsWords}
use Rattle.word_places.proofs.TakenLemmas.{TakenTo}
use Rattle.word_places.proofs.taking.take_texts.Given as goal

abbrev pub invariant-loop-index : goal.invariant-loop-index
invariant-loop-index g l = record {
  rests : Rests (g.D.Disk.state l.fn.disk) (g.D.Disk.state l.disk);
  reads : ReadsWords l.places (g.D.Disk.state l.fn.disk) (g.D.Disk.state l.disk);
  taken : TakenTo (g.V.TakesTexts.took l.fn.taker) (g.D.Disk.state l.fn.disk).seen l.places l.index l.taker;
  steady : (g.D.Disk.state l.disk).faults ≡ (g.D.Disk.state l.fn.disk).faults;
}
