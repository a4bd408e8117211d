-- What a disk in memory tells, and which of its calls fail.
use Rattle.std.specs.Prelude.{◌≡◌, ℕ, Some, ◌+◌, ◌||◌, Bool, nat_eq, nat_lt, nat_le, min, List, [], length, take}
use Rattle.std.specs.List.{list_any}
use Rattle.log_seams.specs.Disk.{DiskState}
use Rattle.log_seams.specs.Replay.{Event, events, IsImage, IsSince}
use Rattle.log_seams.specs.Returned.{ranges_told}
use Rattle.log_seams.specs.declared.mem_disk.MemDisk.{MemDisk}
use Rattle.log_seams.specs.declared.returned.Returned.{Nothing}

-- the bytes that the disk began with
abbrev pub first_of : MemDisk → List ℕ
first_of m = m.first

-- the bytes that a read gives
abbrev pub bytes_of : MemDisk → List ℕ
bytes_of m = m.bytes.items

-- how many calls were recorded
abbrev pub calls_of : MemDisk → ℕ
calls_of m = length m.calls.items

-- the calls so far, the newest first
abbrev pub events_of : MemDisk → List Event
events_of m = events m.calls.items m.log.items

-- the first so many of the calls
abbrev pub events_until : ℕ → MemDisk → List Event
events_until after m = events (take after m.calls.items) m.log.items

-- the ranges read, those of the parts that came back among them
abbrev pub ranges_of : MemDisk → List (ℕ × ℕ)
ranges_of m = ranges_told (events_of m) m.returned

-- it tells its bytes and the ranges read; its moment is the count of its events
abbrev pub disk_state : MemDisk → DiskState
disk_state m = record {
  seen = Some (bytes_of m);
  images = IsImage m.first (events_of m);
  clock = length (events_of m);
  since = IsSince m.first (events_of m);
  ranges = Some (ranges_of m);
  faults = m.faults;
}

-- the next call fails by its number: it is past the last, or stands in the list
abbrev pub fails_next : MemDisk → Bool
fails_next m = nat_le m.call_limit (length m.calls.items) || list_any (λ n. nat_eq n (length m.calls.items)) m.fails.items

-- a write of n bytes there would begin behind the end, or take the disk or the recorded bytes past the room
abbrev pub lacks_room : MemDisk → ℕ → ℕ → Bool
lacks_room m at n = nat_lt (length m.bytes.items) at || nat_lt m.room (at + n) || nat_lt m.room (length m.log.items + n)

-- how a disk is bounded and what it began with stay
pub record SameBut (old new : MemDisk) : Type 0 where
  pub first : first_of new ≡ first_of old
  pub room : new.room ≡ old.room
  pub call_limit : new.call_limit ≡ old.call_limit
  pub fails : new.fails.items ≡ old.fails.items
  pub part_fails : new.part_fails.items ≡ old.part_fails.items
  pub returned : new.returned ≡ old.returned

-- a call more was recorded, unless it is past the last
pub record Recorded (old new : MemDisk) : Type 0 where
  pub same : SameBut old new
  pub calls : calls_of new ≡ min old.call_limit (calls_of old + 1)

-- a disk of these bytes, bounded so, that was not called yet
pub record IsNewDisk (bytes : List ℕ) (room call_limit : ℕ) (fails : List ℕ) (m : MemDisk) : Type 0 where
  pub first : first_of m ≡ bytes
  pub reads : bytes_of m ≡ bytes
  pub events : events_of m ≡ []
  pub calls : calls_of m ≡ 0
  pub rooms : m.room ≡ room
  pub limits : m.call_limit ≡ call_limit
  pub listed : m.fails.items ≡ fails
  pub part_fails : m.part_fails.items ≡ []
  pub returned : m.returned ≡ Nothing
  pub faults : m.faults ≡ 0
