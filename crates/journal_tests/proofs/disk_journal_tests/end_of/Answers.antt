use Rattle.disk_journal.specs.Journal.{state_of}
use Rattle.disk_journal.specs.declared.record.TheConstants.{FRONT_LEN}
use Rattle.disk_journal.proofs.JournalLemmas.{walk_starts, walk_halts}
use Rattle.journal_tests.proofs.disk_journal_tests.end_of.Goals as goal

pub returns : goal.returns
returns g c =
    let first = state_of c.in_ok-journal.journal in
    let opened = c.in_ok-journal.ensures.opened in
    walk_halts first.place FRONT_LEN first (state_of c.next_place.new.self) c.next_place.ensures.reads (rw c.in-None.is at c.in_ok-next_place.ensures.ended) (walk_starts first opened.first opened.begins) opened.begins.synced
