-- The newlines of a text: one between each two messages, and the one behind the last.
use Rattle.std.specs.Prelude.{ℕ, List, [], ◌∷◌, ◌++◌, Bool, true, false}

-- the newline between a message and those before
abbrev pub separator : Bool → List ℕ
separator true = 10 ∷ []
separator false = []

-- a message behind others, or as the first
abbrev pub behind : Bool → List ℕ → List ℕ
behind begun message = separator begun ++ message

-- the newline behind the last message
abbrev pub ending : Bool → Bool → List ℕ
ending true begun = []
ending false true = 10 ∷ []
ending false false = []
