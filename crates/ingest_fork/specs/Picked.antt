-- What a lock's list holds past the opening, by the passes that added it.
use Rattle.std.specs.Prelude.{◌≡◌, ◌≢◌, ℕ, ◌≤◌, List, map, drop, [], Option, Some, None, slice_get, All}
use Rattle.std.specs.List.{filter_map}
use Rattle.turn_lock.specs.declared.grows.Grows.{Ghosts}
use Rattle.turn_lock.specs.declared.board.About.{About}
use Rattle.turn_lock.specs.declared.maker.Maker.{Maker}
use Rattle.turn_lock.specs.declared.pass.Pass.{Pass}
use Rattle.turn_lock.specs.History.{Has, StandsIn}
use Rattle.turn_lock.specs.Words.{number_of, own_list, seen_by, ended_by, own_by, about_by, IsAllOwned}
use Rattle.ingest_fork.specs.Passes.{Joined}

module _ {E : Type 0} where
  -- an own list has no place before this one
  abbrev pub IsPast : ℕ → List (ℕ × E) → Type 0
  IsPast start list = All (λ x. start ≤ x.0) list

  -- the entries of an own list
  abbrev pub entries_in : List (ℕ × E) → List E
  entries_in list = map (λ x. x.1) list

  -- what is picked is what this number alone may add
  abbrev pub AddsAlone : {B : Type 0} → (E → Option B) → (ℕ → E → Type 0) → ℕ → Type 0
  AddsAlone f may n = (k : ℕ) (e : E) → may k e → f e ≢ None → k ≡ n

module _ {V E F : Type 0} where
  -- the entry at the place is one that one of the passes added, and may add
  pub record AddedByOne (may : ℕ → E → Type 0) (ps : List (Pass V E F)) (j : ℕ) (e : E) : Type 0 where
    pub place : ℕ
    pub pass : Pass V E F
    pub is : slice_get ps place ≡ Some pass
    pub allowed : may (number_of pass) e
    pub own : StandsIn (own_list pass) j e

module _ {V E F : Type 0} {G : Ghosts V E F} where
  -- the passes that the maker joined so far added nothing
  abbrev pub NoneAdded : Maker V E F G → Type 0
  NoneAdded m = (n : ℕ) → Has (ended_by m) n → own_by m n ≡ []

  -- Of a maker that joined these passes last, those before having added nothing: each entry past the opening was added by one of
  -- these.
  abbrev pub EachWasAdded : (ℕ → E → Type 0) → Maker V E F G → Type 0
  EachWasAdded may m = (before : Maker V E F G) (ps : List (Pass V E F)) → IsAllOwned may m → Joined before m ps 0
      → NoneAdded before
      → (a : About F) (j : ℕ) (e : E) → about_by m ≡ Some a → a.start ≤ j → slice_get (seen_by m) j ≡ Some e
      → AddedByOne may ps j e

  -- What is picked of the entries past the opening, where one number alone may add it, is what is picked of that number's own
  -- list.
  abbrev pub PickedAreOwn : Type 0 → (ℕ → E → Type 0) → Maker V E F G → Type 0
  PickedAreOwn B may m = (f : E → Option B) (n : ℕ) (a : About F) → IsAllOwned may m → about_by m ≡ Some a → AddsAlone f may n
      → IsPast a.start (own_by m n)
      → filter_map f (drop a.start (seen_by m)) ≡ filter_map f (entries_in (own_by m n))
