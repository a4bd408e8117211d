-- The record of the names of files.
use Rattle.std.specs.Prelude.{◌≡◌, ◌≤◌, ◌+◌, ℕ, List, [], ◌∷◌, length, is_some}
use Rattle.disk_journal.specs.State.{JournalState}
use Rattle.disk_journal.specs.Calls.{HasAdded, IsFull}
use Rattle.archive_meaning.specs.Stands.{IsLegal}
use Rattle.disk_seal.specs.Told.{IfTold, journal_in}
use Rattle.disk_seal.specs.Opening.{MayOpen}
use Rattle.ingest_meaning.specs.Room.{files_record, files_size}

-- it does not fit behind the journal's end
abbrev pub IsFullFor : List (List ℕ) → ℕ → ℕ → JournalState → Type 0
IsFullFor names end need j = IsFull end need (files_size names) j

-- where its bytes are told, the journal holds so many names
abbrev pub HoldsNames : ℕ → JournalState → Type 0
HoldsNames held j =
    IfTold (is_some j.disk.seen)
    ((legal : IsLegal j.header (journal_in j.disk.seen j.count)) → held ≡ length legal.held.names)

-- a store could be opened over a journal with so many names, and can be over the one with further names
abbrev pub StaysOpen : ℕ → JournalState → JournalState → Type 0
StaysOpen held old new = MayOpen old → HoldsNames held old → MayOpen new

-- The record of the names stands behind the others and within the archive's limit of length, and a store can be opened over
-- the journal where one could be before.
pub record HasRegistered (held : ℕ) (names : List (List ℕ)) (old new : JournalState) : Type 0 where
  pub added : HasAdded (files_record names ∷ []) (files_size names) old new
  pub fits : old.place + 1 + files_size names ≤ old.header.length_limit
  pub opens : StaysOpen held old new
