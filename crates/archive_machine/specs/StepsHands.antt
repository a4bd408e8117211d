-- Where a worker's hand stands.
use Rattle.std.specs.Prelude.{◌≡◌, ◌≢◌, ℕ, ◌<◌, List, Some, slice_get}
use Rattle.archive_machine.specs.declared.state.Hand.{Hand}

-- none of the hands is the worker's
abbrev pub IsNoHand : ℕ → List Hand → Type 0
IsNoHand worker hands = (k : ℕ) (hand : Hand) → slice_get hands k ≡ Some hand → hand.worker ≢ worker

-- the hand at the place is the worker's, and none before it is
pub record IsFirstHand (worker : ℕ) (hands : List Hand) (place : ℕ) : Type 0 where
  pub hand : Hand
  pub here : slice_get hands place ≡ Some hand
  pub own : hand.worker ≡ worker
  pub none : (k : ℕ) (other : Hand) → k < place → slice_get hands k ≡ Some other → other.worker ≢ worker
