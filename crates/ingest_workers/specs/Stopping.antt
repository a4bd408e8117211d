-- Where a worker stops.
use Rattle.std.specs.Prelude.{◌≡◌, ℕ, List, [], ◌∷◌, ◌++◌}
use Rattle.log_seams.specs.Disk.{DiskState}
use Rattle.disk_seal.specs.declared.namer.LockNamer.{LockNamer}
use Rattle.disk_seal.specs.Fixed.{KeeperPass}
use Rattle.ingest_workers.specs.declared.open_segment.OpenSegment.{OpenSegment}
use Rattle.ingest_workers.specs.declared.file_end.FileEnd.{FileEnd}
use Rattle.ingest_workers.specs.declared.file_end.FileEnd.TheVariants.{Part, Lost}
use Rattle.ingest_workers.specs.Causes.{IsFullCause}
use Rattle.ingest_workers.specs.Doing.{Doing, NotSealed}
use Rattle.ingest_workers.specs.Full.{WasFullFor, books_by}
use Rattle.ingest_workers.specs.Namer.{types_pass, words_pass}

module _ {D R A B C : Type 0} where
  -- Behind these messages, of which a further one was met: a book is full, and what is in the open segment may still be sealed;
  -- or nothing more is, since a segment was not.
  abbrev pub IsAtStop : (D → DiskState) → ℕ → KeeperPass D → KeeperPass D → LockNamer R A B C → OpenSegment → List (List ℕ)
      → List ℕ → FileEnd → Type 0
  IsAtStop state limit start p n segment taken line (Part cause) =
      Doing state limit start p n segment taken × IsFullCause
      (WasFullFor n.version (λ m. m ≡ line) (books_by (types_pass n) (words_pass n))) cause
  IsAtStop state limit start p n segment taken line (Lost cause) =
      NotSealed state limit start p n segment (taken ++ line ∷ []) cause
