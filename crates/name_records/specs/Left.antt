-- What calls that add entries to a journal leave of its disk.
use Rattle.std.specs.Prelude.{◌≡◌, ◌≤◌, ◌⊎◌, ℕ, List, [], ◌++◌, length, is_some, IfSome}
use mathlib.Core.List.{IsPrefix}
use Rattle.log_seams.specs.Disk.{DiskState, LeavesOnly}
use Rattle.log_seams.specs.Outside.{Rose}
use Rattle.record_format.specs.declared.header.Header.{Header}
use Rattle.disk_journal.specs.State.{JournalState}
use Rattle.archive_meaning.specs.declared.entry.JournalEntry.{JournalEntry}
use Rattle.archive_meaning.specs.Stands.{StandsFor}

-- the bytes stand for the entries, or for them and what was under way
abbrev pub StandsForOr : Header → List JournalEntry → List JournalEntry → List ℕ → Type 0
StandsForOr h es tail bytes = StandsFor bytes h es ⊎ StandsFor bytes h (es ++ tail)

-- the bytes stand for entries between these two
abbrev pub StandsBetween : Header → List JournalEntry → List JournalEntry → List ℕ → Type 0
StandsBetween h before es bytes = (some : List JournalEntry) × IsPrefix before some × IsPrefix some es × StandsFor bytes h some

-- The disk as it reads, and each image at the end, stand for the entries. Each image since the start stands for entries between
-- those before and these. Where a call of the disk failed, one entry more may be under way.
pub record LeavesEntries (h : Header) (before es : List JournalEntry) (old new : DiskState) : Type 0 where
  pub tail : List JournalEntry
  pub one : length tail ≤ 1
  pub none : ¬ Rose old.faults new.faults → tail ≡ []
  pub reads : IfSome new.seen (StandsForOr h es tail)
  pub now : (c : List ℕ) → new.images c → StandsForOr h es tail c
  pub since : (c : List ℕ) → new.since old.clock c → StandsBetween h before (es ++ tail) c

-- The journal is over the same disk with the same header. The disk's count of faults does not fall, and it goes on telling its
-- bytes, or not telling them. What a crash since an earlier moment may have left is what it was, or what has come since then.
pub record HasGoneOn (old new : JournalState) : Type 0 where
  pub name : new.name ≡ old.name
  pub header : new.header ≡ old.header
  pub counts : old.disk.faults ≤ new.disk.faults
  pub tells : is_some new.disk.seen ≡ is_some old.disk.seen
  pub moments : LeavesOnly old.disk new.disk (λ _. Unit {0})
