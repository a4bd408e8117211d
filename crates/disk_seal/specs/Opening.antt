-- When a journal and two passes make a store.
use Rattle.std.specs.Prelude.{◌≡◌, ℕ, is_some}
use Rattle.dict_lock.specs.Shared.{BookPass}
use Rattle.record_format.specs.Header.{IsHeader}
use Rattle.disk_journal.specs.Place.{entries}
use Rattle.disk_journal.specs.State.{JournalState, IsAtEnd}
use Rattle.archive_meaning.specs.Spelled.{records_of}
use Rattle.archive_meaning.specs.Stands.{IsLegal}
use Rattle.disk_seal.specs.Told.{IfTold, journal_in}
use Rattle.disk_seal.specs.View.{KnowsTypes, KnowsWords}

-- the journal is at its end, and where its bytes are told they stand for a legal one
pub record MayOpen (j : JournalState) : Type 0 where
  pub ends : IsAtEnd j
  pub header : IsHeader j.header
  pub spelled : entries j.disk.seen j.count ≡ records_of (journal_in j.disk.seen j.count)
  pub legal : IfTold (is_some j.disk.seen) (IsLegal j.header (journal_in j.disk.seen j.count))

-- the passes have seen the texts of the journal, of which these are saved
pub record MayName (j : JournalState) (types words : BookPass) (types_saved words_saved : ℕ) : Type 0 where
  pub of_types : KnowsTypes (is_some j.disk.seen) j.header types types_saved (journal_in j.disk.seen j.count)
  pub of_words : KnowsWords (is_some j.disk.seen) j.header words words_saved (journal_in j.disk.seen j.count)
