-- Messages as printed lines.
use Rattle.std.specs.Prelude.{◌≡◌, ◌⊎◌, ℕ, ◌+◌, List, [], ◌∷◌, ◌++◌}
use Rattle.std.specs.List.{flat_map}
use Rattle.std.specs.Fmt.{decimal}

-- a message with its file's name and its number in the file, from 1
pub record Placed : Type 0 where
  pub name : List ℕ
  pub number : ℕ
  pub message : List ℕ

abbrev pub placed : List ℕ → ℕ → List ℕ → Placed
placed name number message = record { name = name; number = number; message = message }

-- messages with numbers from this one on
abbrev pub numbered : List ℕ → ℕ → List (List ℕ) → List Placed
numbered name number [] = []
numbered name number (m ∷ messages) = placed name number m ∷ numbered name (number + 1) messages

-- those of a list that have P, in order
abbrev pub Picks : {A : Type 0} → (A → Type 0) → List A → List A → Type 0
Picks P [] picked = picked ≡ []
Picks {A} P (x ∷ xs) picked = ((rest : List A) × P x × Picks P xs rest × (picked ≡ x ∷ rest)) ⊎ ((¬ P x) × Picks P xs picked)

-- what stands before a message in its line
abbrev pub label_of : List ℕ → ℕ → List ℕ
label_of name number = name ++ (58 ∷ (decimal number ++ 58 ∷ []))

-- the name, the number and the message, with `:` between them, and a newline
abbrev pub line_of : Placed → List ℕ
line_of p = p.name ++ (58 ∷ (decimal p.number ++ (58 ∷ (p.message ++ 10 ∷ []))))

abbrev pub lines_of : List Placed → List ℕ
lines_of ps = flat_map line_of ps
