-- Who follows a journal beside those that append to it.
use Rattle.std.specs.Prelude.{◌≡◌, ℕ, ◌+◌, ◌≤◌, Bool, false, true, List, length, take, drop}
use Rattle.log_seams.specs.Disk.{DiskState}
use Rattle.turn_lock.specs.Words.{seen, IsReady}
use Rattle.record_format.specs.declared.header.Header.{Header}
use Rattle.archive_meaning.specs.declared.entry.JournalEntry.{JournalEntry}
use Rattle.disk_seal.specs.Fixed.{KeeperPass}
use Rattle.disk_seal.specs.Prepare.{HasSeenOpening}
use Rattle.disk_seal.specs.Looked.{journal_length, IsMarked, WhereTold, HasTurned}

-- How many entries of the journal it begins with, and how many behind these it has handled; whether it refuses more, and
-- whether it does for a fault of the disk; what of it stays; and whether it stands for entries that it began with and entries
-- that it has handled, under this header
pub record Follower (F : Type 0) : Type 1 where
  pub first : ℕ
  pub handled : ℕ
  pub refused : Bool
  pub halted : Bool
  pub fixed : F
  pub stands : Header → List JournalEntry → List JournalEntry → Type 0

module _ {F : Type 0} where
  -- it stands for the first of these entries
  pub record StandsOn (f : Follower F) (h : Header) (es : List JournalEntry) : Type 0 where
    pub within : f.first + f.handled ≤ length es
    pub stands : f.stands h (take f.first es) (take f.handled (drop f.first es))

  module _ {D : Type 0} where
    -- it stands for the first of the entries that the pass has seen, and where it refuses for a fault of the disk the pass has
    -- seen the mark
    pub record KeepsUp (state : D → DiskState) (f : Follower F) (p : KeeperPass D) : Type 0 where
      pub within : f.first + f.handled ≤ journal_length (seen p)
      pub stands : WhereTold state p (StandsOn f)
      pub marked : f.halted ≡ true → IsMarked (seen p)

    -- it may follow by this pass
    pub record MayFollowOn (state : D → DiskState) (f : Follower F) (p : KeeperPass D) : Type 0 where
      pub ready : IsReady p
      pub opening : HasSeenOpening p
      pub keeps : KeepsUp state f p

    -- it has followed, and the pass has added nothing but marks
    pub record HasFollowed (state : D → DiskState) (f g : Follower F) (p q : KeeperPass D) : Type 0 where
      pub first : g.first ≡ f.first
      pub fixed : g.fixed ≡ f.fixed
      pub more : f.handled ≤ g.handled
      pub keeps : KeepsUp state g q
      pub turned : HasTurned p q

    -- unless it refuses, it has handled all entries that the pass has seen
    abbrev pub IsThrough : Follower F → KeeperPass D → Type 0
    IsThrough f p = f.refused ≡ false → f.first + f.handled ≡ journal_length (seen p)
