use Rattle.std.proofs.Common.{◌≡◌, length}
use Rattle.log_seams.specs.Disk.{Rests}
use Rattle.word_places.specs.Reads.{ReadsWords}
use Rattle.word_places.proofs.FoundLemmas.{GoneEach}
use Rattle.word_places.proofs.finding.find_words.Given as goal

abbrev pub invariant-loop-index : goal.invariant-loop-index
invariant-loop-index g l = record {
  rests : Rests (g.D.Disk.state l.fn.disk) (g.D.Disk.state l.disk);
  reads : ReadsWords l.places (g.D.Disk.state l.fn.disk) (g.D.Disk.state l.disk);
  long : length l.lists.items ≡ length l.needles;
  gone : GoneEach (g.D.Disk.state l.fn.disk).seen l.places l.needles l.index l.lists.items;
  steady : (g.D.Disk.state l.disk).faults ≡ (g.D.Disk.state l.fn.disk).faults;
}
