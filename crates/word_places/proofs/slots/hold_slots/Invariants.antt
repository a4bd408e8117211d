use Rattle.std.proofs.Common.{◌≡◌}
use Rattle.log_seams.specs.Disk.{Rests}
use Rattle.word_places.specs.Held.{RightTold, places_of}
use Rattle.word_places.specs.Reads.{ReadsWords}
use Rattle.word_places.proofs.SlotLemmas.{IsHeldTo}
use Rattle.word_places.proofs.slots.hold_slots.Given as goal

abbrev pub invariant-loop-byte : goal.invariant-loop-byte
invariant-loop-byte g l = record {
  rests : Rests (g.D.Disk.state l.fn.disk) (g.D.Disk.state l.disk);
  reads : ReadsWords (places_of l.fn.records.items) (g.D.Disk.state l.fn.disk) (g.D.Disk.state l.disk);
  held : IsHeldTo l.fn.records.items l.records.items l.text l.fn.words l.escaped l.byte-index l.left;
  right : RightTold (g.D.Disk.state l.fn.disk).seen l.fn.records.items → RightTold (g.D.Disk.state l.fn.disk).seen l.records.items;
  steady : (g.D.Disk.state l.disk).faults ≡ (g.D.Disk.state l.fn.disk).faults;
}
