-- What does not fit in an archive.
use Rattle.std.specs.Prelude.{◌≡◌, ℕ, ◌+◌, ◌<◌, List, Some}
use mathlib.Core.List.{IsPrefix}
use Rattle.log_seams.specs.Disk.{DiskState}
use Rattle.turn_lock.specs.declared.board.About.{About}
use Rattle.turn_lock.specs.Words.{about, number_of, seen}
use Rattle.row_codec.specs.declared.namer.Which.{Which}
use Rattle.archive_meaning.specs.declared.entry.JournalEntry.{JournalEntry}
use Rattle.disk_seal.specs.declared.fixed.StoreFixed.{StoreFixed}
use Rattle.disk_seal.specs.Draft.{journal_seen}
use Rattle.disk_seal.specs.Fixed.{KeeperPass}
use Rattle.ingest_meaning.specs.Room.{HadNoRoom}
use Rattle.ingest_workers.specs.Full.{Books, book_of}
use Rattle.ingest_workers.specs.Journal.{WhereTold}

-- the entries begin with the first ones, and the others begin with them
abbrev pub IsBetween : List JournalEntry → List JournalEntry → List JournalEntry → Type 0
IsBetween first all front = IsPrefix first front × IsPrefix front all

-- ---- to a worker

-- these were the texts of a book of which this is known
abbrev pub WereKnown : Books → List JournalEntry → Which → List (List ℕ) → Type 0
WereKnown books front book texts = IsPrefix texts (book_of books book).texts

module _ {D : Type 0} where
  -- the archive has no room for so many bytes behind this end
  abbrev pub HasNoRoomBy : KeeperPass D → ℕ → ℕ → Type 0
  HasNoRoomBy p end need = (a : About (StoreFixed D)) → about p ≡ Some a → a.fixed.header.length_limit < end + need

  -- so it was of the next segment of the pass' file behind these messages, at some moment since then, where this is known of the
  -- books
  abbrev pub FoundNoRoom : (D → DiskState) → ℕ → ℕ → Books → (List (List ℕ) → Type 0) → (List (List ℕ) → Type 0) → KeeperPass D
      → KeeperPass D → List (List ℕ) → ℕ → ℕ → Type 0
  FoundNoRoom state limit version books follow last p q sealed end need =
      HasNoRoomBy p end need
      × WhereTold state p (λ h. HadNoRoom h limit version (number_of p)
      (IsBetween (journal_seen (seen p)) (journal_seen (seen q))) (WereKnown books) follow last sealed end need)
