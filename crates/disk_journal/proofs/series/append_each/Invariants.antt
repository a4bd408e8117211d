use Rattle.std.proofs.Common.{◌≡◌, take}
use Rattle.disk_journal.specs.Journal.{state_of}
use Rattle.disk_journal.specs.Calls.{GoesOn, HasAdded, LeavesFirst}
use Rattle.disk_journal.specs.Series.{saved_all, size_all}
use Rattle.disk_journal.proofs.series.append_each.Given as goal

abbrev pub invariant-loop-text : goal.invariant-loop-text
invariant-loop-text g l = record {
  goes_on : GoesOn (state_of l.initial.journal) (state_of l.journal);
  added : HasAdded (take l.text-index (saved_all l.texts)) (size_all (take l.text-index l.texts)) (state_of l.initial.journal) (state_of l.journal);
  moments : LeavesFirst (saved_all l.texts) (state_of l.initial.journal) (state_of l.journal);
  counts : (state_of l.journal).disk.faults ≡ (state_of l.initial.journal).disk.faults;
}
