use Rattle.std.proofs.Common.{◌≡◌, ◌≤◌, List, drop, length, take}
use Rattle.std.specs.Slice.Iter.{chunks_rest, chunks_size}
use Rattle.disk_journal.specs.Journal.{state_of}
use Rattle.archive_meaning.specs.declared.TheConstants.{MAX_NAMES}
use Rattle.archive_meaning.specs.declared.entry.JournalEntry.{JournalEntry}
use Rattle.name_records.specs.Named.{HasNames, names_of}
use Rattle.name_records.proofs.registering.register_names.Given as goal

abbrev pub invariant-loop-group : goal.invariant-loop-group
invariant-loop-group g l = record {
  can : (goal.iterator-loop-group g).can_next l.group-iterator;
  finite : (goal.iterator-loop-group g).is_finite l.group-iterator;
  size : chunks_size l.group-iterator ≡ MAX_NAMES;
  within : l.count ≤ length l.files;
  rest : chunks_rest l.group-iterator ≡ drop l.count l.files;
  named : (naming : List JournalEntry) × HasNames l.first (take l.count (names_of l.files)) naming (state_of l.fn.journal) (state_of l.journal);
}
