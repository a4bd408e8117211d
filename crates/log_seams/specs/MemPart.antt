-- What a part of a disk in memory tells.
use Rattle.std.specs.Prelude.{◌≡◌, ◌≤◌, Some}
use Rattle.log_seams.specs.Disk.{DiskState}
use Rattle.log_seams.specs.Outside.{Rose}
use Rattle.log_seams.specs.declared.mem_part.MemPart.{MemPart}

-- it tells its bytes, which a crash leaves as they are, and the ranges read
abbrev pub part_state : MemPart → DiskState
part_state p = record {
  seen = Some p.bytes.items;
  images = λ c. c ≡ p.bytes.items;
  clock = 0;
  since = λ t c. c ≡ p.bytes.items;
  ranges = Some p.ranges.items;
  faults = p.faults;
}

-- a call of the part failed
pub record HasFailed (old new : MemPart) : Type 0 where
  pub bytes : new.bytes.items ≡ old.bytes.items
  pub ranges : new.ranges.items ≡ old.ranges.items
  pub later : old.faults ≤ new.faults
  pub rose : Rose old.faults new.faults
