-- What a disk tells of which nothing is known but how often its calls failed.
use Rattle.std.specs.Prelude.{ℕ, None}
use Rattle.log_seams.specs.Disk.{DiskState}

abbrev pub untold : ℕ → DiskState
untold faults = record {
  seen = None;
  images = λ _. Unit {0};
  clock = 0;
  since = λ _ _. Unit {0};
  ranges = None;
  faults = faults;
}
