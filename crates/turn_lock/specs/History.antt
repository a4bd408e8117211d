-- The history of a lock: the list of entries that its value has had since the lock was
-- made, each past the opening with the number of the pass that added it. It only grows.
-- The own list of a number: the places of what was added under it, with the entries.
use Rattle.std.specs.Prelude.{◌≡◌, ◌⊎◌, ℕ, ◌+◌, ◌==◌, Bool, false, List, [], ◌∷◌}
use Rattle.std.specs.Prelude.{map, if◌then◌else◌, Option, Some, None, slice_get}
use mathlib.Core.List.{IsPrefix}

-- an entry, and the number of the pass that added it; the entries of the opening have no number
abbrev pub Mark : Type 0 → Type 0
Mark E = E × Option ℕ

abbrev pub entries_of : {E : Type 0} → List (Mark E) → List E
entries_of h = map (λ x. x.0) h

abbrev pub unmarked : {E : Type 0} → List E → List (Mark E)
unmarked es = map (λ e. (e, None)) es

abbrev pub Has : List ℕ → ℕ → Type 0
Has [] n = ⊥
Has (x ∷ xs) n = (x ≡ n) ⊎ Has xs n

abbrev pub is_number : Option ℕ → ℕ → Bool
is_number None n = false
is_number (Some m) n = m == n

module _ {E : Type 0} where
  -- where the list begins at the place k
  abbrev pub own_from : ℕ → ℕ → List (Mark E) → List (ℕ × E)
  own_from n k [] = []
  own_from n k (x ∷ xs) = if is_number x.1 n then (k, x.0) ∷ own_from n (k + 1) xs else own_from n (k + 1) xs

  abbrev pub own : ℕ → List (Mark E) → List (ℕ × E)
  own n h = own_from n 0 h

  -- the entries with their places, from the place k on
  abbrev pub places : ℕ → List E → List (ℕ × E)
  places k [] = []
  places k (e ∷ es) = (k, e) ∷ places (k + 1) es

  -- the own list has the entry at the place j of the history
  abbrev pub StandsIn : List (ℕ × E) → ℕ → E → Type 0
  StandsIn list j e = (i : ℕ) × (slice_get list i ≡ Some (j, e))

  -- each place that the own list has is one of the entries', with its entry
  abbrev pub IsPlacesOf : List (ℕ × E) → List E → Type 0
  IsPlacesOf list es = (j : ℕ) (e : E) → StandsIn list j e → slice_get es j ≡ Some e

  -- who had seen one beginning of the history learned another, and has then seen the longer
  pub record HasLearned (mine theirs now : List E) : Type 0 where
    pub mine_first : IsPrefix mine now
    pub theirs_first : IsPrefix theirs now
    pub longer : (now ≡ mine) ⊎ (now ≡ theirs)
