use Rattle.std.proofs.Common.{◌≡◌, ◌<◌, ◌≤◌}
use Rattle.disk_journal.specs.Journal.{state_of}
use Rattle.archive_open.specs.Shown.{Looks, Spares}
use Rattle.archive_open.specs.StepsNext.{GoesWith}
use Rattle.archive_open.proofs.walk.keep_all.Given as goal

abbrev pub invariant-loop : goal.invariant-loop
invariant-loop g l = record {
  looks : Looks (state_of l.initial.journal) (state_of l.journal);
  ranges : Spares (state_of l.initial.journal).disk.seen (state_of l.initial.journal).disk.ranges (state_of l.journal).disk.ranges;
  goes : GoesWith (g.K.KeepsRecords.kept l.keeping) (state_of l.journal);
  sound : g.K.KeepsRecords.sound l.keeping;
  counts : (state_of l.journal).disk.faults ≡ (state_of l.initial.journal).disk.faults;
  far : l.journal.count < l.journal.place;
  counted : l.counter ≤ l.journal.count;
}
