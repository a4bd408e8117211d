-- What the templates say of printed stamps.
use Rattle.std.specs.Prelude.{◌≡◌, ◌⊎◌, ℕ, ◌+◌, ◌<◌, ◌≤◌, List, [], ◌∷◌, ◌++◌, length, take, drop, ℤ, ◌≤ℤ◌}
use Rattle.time_patterns.specs.Stamps.{Prints}
use Rattle.wild_match.specs.Matches.{Match}
use Rattle.query_plan.specs.Needs.{around}
use Rattle.stamp_templates.specs.Templates.{Fits, FitsAt, template_of}

-- what a pattern prints fits its template
abbrev pub TextsFit : Type 0
TextsFit = (k : ℕ) (m : ℤ) (stamp : List ℕ) → Prints k m stamp → Fits (template_of k) stamp

-- the text stands in the stamp's from this place on
abbrev pub StandsAt : List ℕ → List ℕ → ℕ → Type 0
StandsAt text stamp at = (at + length text ≤ length stamp) × (take (length text) (drop at stamp) ≡ text)

-- a text stands in what a pattern prints only where the template allows it
abbrev pub PlacesFit : Type 0
PlacesFit =
    (k : ℕ) (m : ℤ) (stamp text : List ℕ) (at : ℕ) → Prints k m stamp → StandsAt text stamp at → FitsAt (template_of k) text at

-- a text that a stamp matches with any bytes on both sides stands at some place of it
abbrev pub MatchesStand : Type 0
MatchesStand = (text stamp : List ℕ) → Match (around text) stamp → (at : ℕ) × StandsAt text stamp at

-- the text stands in nothing that the pattern prints
abbrev pub StandsInNone : ℕ → List ℕ → Type 0
StandsInNone k text = (m : ℤ) (stamp : List ℕ) → Prints k m stamp → ¬ Match (around text) stamp

-- the text stands in nothing that the pattern prints for a moment between two
abbrev pub StandsInNoneBetween : ℕ → ℤ → ℤ → List ℕ → Type 0
StandsInNoneBetween k least greatest text =
    (m : ℤ) (stamp : List ℕ) → least ≤ℤ m → m ≤ℤ greatest → Prints k m stamp → ¬ Match (around text) stamp

-- nothing that the pattern prints ends with the text
abbrev pub EndsNone : ℕ → List ℕ → Type 0
EndsNone k text = (m : ℤ) (before : List ℕ) → ¬ Prints k m (before ++ text)

-- the text ends, or the first byte that differs is less than the other's
abbrev pub IsNotAbove : List ℕ → List ℕ → Type 0
IsNotAbove [] other = Unit {0}
IsNotAbove (a ∷ text) [] = ⊥
IsNotAbove (a ∷ text) (b ∷ other) = (a < b) ⊎ ((a ≡ b) × IsNotAbove text other)

-- what a pattern prints for a moment is not above what it prints for a later one
abbrev pub TextsRise : Type 0
TextsRise =
    (k : ℕ) (m l : ℤ) (text other : List ℕ) → m ≤ℤ l → Prints k m text → Prints k l other → IsNotAbove text other
