-- Passes of a turn lock that are made together, one for each job, and ended together.
use Rattle.std.specs.Prelude.{◌≡◌, ◌⊎◌, ℕ, ◌+◌, ◌<◌, ◌≤◌, List, [], length, Some, slice_get}
use mathlib.Core.List.{IsPrefix}
use Rattle.turn_lock.specs.declared.grows.Grows.{Ghosts}
use Rattle.turn_lock.specs.declared.board.About.{About}
use Rattle.turn_lock.specs.declared.maker.Maker.{Maker}
use Rattle.turn_lock.specs.declared.pass.Pass.{Pass}
use Rattle.turn_lock.specs.History.{Has}
use Rattle.turn_lock.specs.Words.{lock_of, number_of, seen, own_list, about, IsReady, IsStill}
use Rattle.turn_lock.specs.Words.{lock_by, made_by, seen_by, ended_by, own_by, about_by, IsStillBy, HasJoinedAll}

module _ {V E F : Type 0} where
  -- the number is of one of the passes, from that place on
  abbrev pub IsOneOf : List (Pass V E F) → ℕ → ℕ → Type 0
  IsOneOf ps from n = (i : ℕ) × (p : Pass V E F) × (from ≤ i) × (slice_get ps i ≡ Some p) × (number_of p ≡ n)

  -- each pass is still the same pass
  pub record AreStill (ps qs : List (Pass V E F)) : Type 0 where
    pub counted : length qs ≡ length ps
    pub each : (i : ℕ) (p q : Pass V E F) → slice_get ps i ≡ Some p → slice_get qs i ≡ Some q → IsStill p q

module _ {V E F : Type 0} {G : Ghosts V E F} where
  -- the i-th pass that the maker makes from now on: it has seen what the maker has, and added nothing
  pub record IsFresh (m : Maker V E F G) (i : ℕ) (p : Pass V E F) : Type 0 where
    pub lock : lock_of p ≡ lock_by m
    pub about_is : about p ≡ about_by m
    pub ready : IsReady p
    pub number : (a : About F) → about_by m ≡ Some a → number_of p ≡ a.first + (made_by m + i)
    pub seen_is : seen p ≡ seen_by m
    pub own_is : own_list p ≡ []

  -- the maker made so many passes, and these are they, in order
  pub record Fresh (m m' : Maker V E F G) (ps : List (Pass V E F)) (count : ℕ) : Type 0 where
    pub still : IsStillBy m m'
    pub made : made_by m' ≡ made_by m + count
    pub counted : length ps ≡ count
    pub each : (i : ℕ) (p : Pass V E F) → slice_get ps i ≡ Some p → IsFresh m i p

  -- each of the passes is of the maker's lock, and between two turns
  abbrev pub AreJoinable : Maker V E F G → List (Pass V E F) → Type 0
  AreJoinable m ps = (i : ℕ) (p : Pass V E F) → slice_get ps i ≡ Some p → (lock_of p ≡ lock_by m) × IsReady p

  -- what the maker has of a pass that it joined
  pub record HasEnded (m : Maker V E F G) (p : Pass V E F) : Type 0 where
    pub ended : Has (ended_by m) (number_of p)
    pub own_is : own_by m (number_of p) ≡ own_list p
    pub seen_on : IsPrefix (seen p) (seen_by m)

  -- the maker joined the passes from that place on, and no other
  pub record Joined (m m' : Maker V E F G) (ps : List (Pass V E F)) (from : ℕ) : Type 0 where
    pub lock : lock_by m' ≡ lock_by m
    pub about_is : about_by m' ≡ about_by m
    pub made : made_by m' ≡ made_by m
    pub seen_on : IsPrefix (seen_by m) (seen_by m')
    pub before : (n : ℕ) → Has (ended_by m) n → Has (ended_by m') n × (own_by m' n ≡ own_by m n)
    pub each : (i : ℕ) (p : Pass V E F) → from ≤ i → slice_get ps i ≡ Some p → HasEnded m' p
    pub only : (n : ℕ) → Has (ended_by m') n → Has (ended_by m) n ⊎ IsOneOf ps from n

  -- When these passes were joined, each one made before them was joined, and none was made after them.
  pub record OnlyThese (m m' later : Maker V E F G) : Type 0 where
    pub about_is : about_by later ≡ about_by m'
    pub made : made_by later ≡ made_by m'
    pub others : (a : About F) (n : ℕ) → about_by m ≡ Some a → a.first ≤ n → n < a.first + made_by m → Has (ended_by later) n

  -- Of a maker that joined these passes last: it joined every pass that it made.
  abbrev pub AllAreJoined : Maker V E F G → Type 0
  AllAreJoined end = (m m' later : Maker V E F G) (ps qs : List (Pass V E F)) (count : ℕ) → Fresh m m' ps count → AreStill ps qs
      → OnlyThese m m' later → Joined later end qs 0 → HasJoinedAll end
