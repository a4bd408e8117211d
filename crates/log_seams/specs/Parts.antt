-- What a disk lends, and what it takes back: parts, each of which one thread reads.
use Rattle.std.specs.Prelude.{◌≡◌, ◌<◌, ◌≤◌, ℕ, List, [], ◌++◌, Option, option_map, All}
use Rattle.log_seams.specs.Disk.{DiskState, Rests}
use Rattle.log_seams.specs.Outside.{Rose}

-- no range was read, where the ranges are told
abbrev pub no_ranges : Option (List (ℕ × ℕ)) → Option (List (ℕ × ℕ))
no_ranges ranges = option_map (λ r. []) ranges

-- these ranges were read too, behind those before
abbrev pub with_ranges : List (ℕ × ℕ) → Option (List (ℕ × ℕ)) → Option (List (ℕ × ℕ))
with_ranges more ranges = option_map (λ r. r ++ more) ranges

-- to lend a part reads nothing and is no fault
pub record Lends (old new : DiskState) : Type 0 where
  pub rests : Rests old new
  pub ranges : new.ranges ≡ old.ranges
  pub faults : new.faults ≡ old.faults

-- a part that is lent tells the bytes that the disk tells; it read nothing and did not fail
pub record IsPart (disk part : DiskState) : Type 0 where
  pub seen : part.seen ≡ disk.seen
  pub ranges : part.ranges ≡ no_ranges disk.ranges
  pub faults : part.faults ≡ 0

-- where the disk tells its ranges, the part has read these, each of which has P
pub record HasReadSuch (P : ℕ × ℕ → Type 0) (disk part : DiskState) : Type 0 where
  pub more : List (ℕ × ℕ)
  pub added : part.ranges ≡ with_ranges more (no_ranges disk.ranges)
  pub each : All P more

-- a part comes back: what it read the disk has read too, and where it failed the disk has failed
pub record TakesBack (part old new : DiskState) : Type 0 where
  pub rests : Rests old new
  pub added : (more : List (ℕ × ℕ)) → part.ranges ≡ with_ranges more (no_ranges old.ranges)
      → new.ranges ≡ with_ranges more old.ranges
  pub later : old.faults ≤ new.faults
  pub steady : part.faults ≡ 0 → new.faults ≡ old.faults
  pub rose : 0 < part.faults → Rose old.faults new.faults
