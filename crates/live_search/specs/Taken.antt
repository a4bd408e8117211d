-- What a reader does with a record that was found.
use Rattle.std.specs.Prelude.{◌≡◌, ◌≢◌, ℕ, List, Option, Some, None}
use Rattle.disk_seal.specs.declared.found.Found.{Found}
use Rattle.live_search.specs.declared.refusal.LiveRefusal.TheVariants.{DiskFault, Damaged}
use Rattle.live_search.specs.Handled.{Handles, MeetsNone, Stops}
use Rattle.live_search.specs.Reader.{LiveView}

-- it handled the record, or it reads no further
pub record Takes {K : Type 0} (written : K → Option (List ℕ)) (f : Found) (old new : LiveView K) : Type 0 where
  pub name : new.name ≡ old.name
  pub begun : new.begun ≡ old.begun
  pub handled : new.refusal ≡ None → Handles f old.reached new.reached (written old.out) (written new.out)
  pub stopped : new.refusal ≢ None → Stops f old.reached new.reached (written old.out) (written new.out)
  pub damaged : (at : ℕ) → new.refusal ≡ Some (Damaged at) → MeetsNone f old.reached
  pub disk : new.refusal ≢ Some DiskFault
