-- What a sink that may tell its bytes has taken.
use Rattle.std.specs.Prelude.{◌≡◌, ℕ, List, ◌++◌, Bool, true, false, Option, option_map}

-- the sink took this text after what it had
abbrev pub Grew : Option (List ℕ) → Option (List ℕ) → List ℕ → Type 0
Grew old new text = new ≡ option_map (λ w. w ++ text) old

-- the sink took a front of this text
abbrev pub GrewByFront : Option (List ℕ) → Option (List ℕ) → List ℕ → Type 0
GrewByFront old new text = (front : List ℕ) × (rest : List ℕ) × (text ≡ front ++ rest) × Grew old new front

-- The sink took all of the text, or a front of it.
abbrev pub Took : Bool → Option (List ℕ) → Option (List ℕ) → List ℕ → Type 0
Took true old new text = Grew old new text
Took false old new text = GrewByFront old new text

-- The sink took a front of what was gathered, and the rest is still gathered.
pub record Moves (old new : Option (List ℕ)) (gathered rest : List ℕ) : Type 0 where
  pub front : List ℕ
  pub splits : gathered ≡ front ++ rest
  pub grew : Grew old new front

-- The text is what the sink took since it had `start`, and then what is gathered.
pub record Gathers (start now : Option (List ℕ)) (gathered text : List ℕ) : Type 0 where
  pub front : List ℕ
  pub splits : text ≡ front ++ gathered
  pub grew : Grew start now front
