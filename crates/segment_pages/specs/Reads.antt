-- What reading leaves of a disk.
use Rattle.std.specs.Prelude.{◌≡◌, ◌≤◌, ◌+◌, ℕ, List, ◌++◌, Option, option_map, All}
use Rattle.log_seams.specs.Disk.{DiskState, Rests}

-- each range that was read since lies within the n bytes from a place on
pub record ReadsWithin (at n : ℕ) (old new : Option (List (ℕ × ℕ))) : Type 0 where
  pub more : List (ℕ × ℕ)
  pub added : new ≡ option_map (λ ranges. ranges ++ more) old
  pub within : All (λ r. (at ≤ r.0) × (r.0 + r.1 ≤ at + n)) more

-- the disk was only read, and no byte outside of the n bytes from a place on
pub record OnlyReadsIn (at n : ℕ) (old new : DiskState) : Type 0 where
  pub rests : Rests old new
  pub ranges : ReadsWithin at n old.ranges new.ranges
