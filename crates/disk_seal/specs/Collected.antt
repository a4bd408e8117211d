-- What becomes of a store that collects the texts which are not saved.
use Rattle.std.specs.Prelude.{◌≡◌, ℕ, List}
use mathlib.Core.List.{IsPrefix}
use Rattle.turn_lock.specs.Words.{seen, IsStill, IsReady, own_list}
use Rattle.dict_lock.specs.Shared.{BookPass}
use Rattle.disk_seal.specs.View.{StoreView}

-- all but what its passes have seen
pub record IsSameButBooks {D : Type 0} (v w : StoreView D) : Type 0 where
  pub passes : w ≡ record v { types = w.types; words = w.words }

-- the pass has seen what it had, and what was noted, and has added nothing
pub record HasSeenMore (p q : BookPass) (noted : List (List ℕ)) : Type 0 where
  pub still : IsStill p q
  pub ready : IsReady q
  pub seen_on : IsPrefix (seen p) (seen q)
  pub noted_on : IsPrefix noted (seen q)
  pub own : own_list q ≡ own_list p
