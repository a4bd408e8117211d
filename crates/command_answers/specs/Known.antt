-- An archive that is known, and what a disk tells where it had that archive.
use Rattle.std.specs.Prelude.{ℕ, Bool, true, false, List, Option, None, Some}
use Rattle.std.specs.Str.{bytes_eq}
use Rattle.log_seams.specs.Disk.{DiskState}
use Rattle.record_format.specs.declared.header.Header.{Header}
use Rattle.archive_meaning.specs.declared.entry.JournalEntry.{JournalEntry}
use Rattle.archive_meaning.specs.Stands.{StandsFor}

-- bytes that stand for a legal journal, and the journal
pub record KnownArchive : Type 0 where
  pub bytes : List ℕ
  pub header : Header
  pub entries : List JournalEntry
  pub stands : StandsFor bytes header entries

-- an archive is known, and these bytes are told and are its bytes
abbrev pub are_of : Option KnownArchive → Option (List ℕ) → Bool
are_of None told = false
are_of (Some a) None = false
are_of (Some a) (Some bytes) = bytes_eq a.bytes bytes

-- the bytes, where they are to be told
abbrev pub seen_if : Bool → Option (List ℕ) → Option (List ℕ)
seen_if true told = told
seen_if false told = None

-- the same disk, which tells its bytes only where it is to
abbrev pub told_if : Bool → DiskState → DiskState
told_if tells d = record {
  seen = seen_if tells d.seen;
  images = d.images;
  clock = d.clock;
  since = d.since;
  ranges = d.ranges;
  faults = d.faults;
}

-- What the disk tells where it had the known archive's bytes at the start: all that it tells. Where it had others, or told
-- none, it tells nothing of its bytes.
abbrev pub over : Option KnownArchive → DiskState → DiskState → DiskState
over known old d = told_if (are_of known old.seen) d
