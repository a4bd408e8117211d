-- What holds of every call of the program, whatever its words ask for, so that what is known of several calls can be joined.
use Rattle.std.specs.Prelude.{◌≡◌, ◌≤◌, ℕ, List, is_some}
use Rattle.log_seams.specs.Disk.{DiskState, LeavesOnly}
use Rattle.command_refusals.specs.Outside.{Outside}

-- no count of faults of the logs and of the two outputs falls
pub record OutsideGoesOn (seen : Outside) : Type 0 where
  pub opens : (name : List ℕ) → (seen.opens name).0 ≤ (seen.opens name).1
  pub reads : (name : List ℕ) → (seen.reads name).0 ≤ (seen.reads name).1
  pub out : seen.out_faults.0 ≤ seen.out_faults.1
  pub err : seen.err_faults.0 ≤ seen.err_faults.1

-- The disk's count of faults does not fall, and it goes on telling its bytes, or not telling them. What a crash since an
-- earlier moment may have left is what it was, or what has come since the call's start.
pub record DiskGoesOn (old new : DiskState) : Type 0 where
  pub counts : old.faults ≤ new.faults
  pub tells : is_some new.seen ≡ is_some old.seen
  pub moments : LeavesOnly old new (λ _. Unit {0})
