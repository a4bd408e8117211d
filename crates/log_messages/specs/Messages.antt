-- The messages of a log: its lines without their newlines, and whether the last line had one.
-- A newline is the byte 10. Every other byte is an ordinary one, a carriage return too.
use Rattle.std.specs.Prelude.{◌≡◌, ◌≢◌, ℕ, List, [], ◌∷◌, ◌++◌, Bool, true, false, All}

-- no byte of it is a newline
abbrev pub IsLine : List ℕ → Type 0
IsLine line = All (λ b. b ≢ 10) line

-- the messages, each with a newline after it
abbrev pub joined : List (List ℕ) → List ℕ
joined [] = []
joined (message ∷ messages) = message ++ (10 ∷ joined messages)

-- The last message stands without a newline, and is not empty.
pub record EndsOpen (bytes : List ℕ) (messages : List (List ℕ)) : Type 0 where
  pub front : List (List ℕ)
  pub last : List ℕ
  pub splits : messages ≡ front ++ last ∷ []
  pub some : last ≢ []
  pub is : bytes ≡ joined front ++ last

-- The messages of these bytes, and whether the last line had its newline. No bytes are no messages, and those are ended.
abbrev pub Messages : List ℕ → List (List ℕ) → Bool → Type 0
Messages bytes messages true = All IsLine messages × (bytes ≡ joined messages)
Messages bytes messages false = All IsLine messages × EndsOpen bytes messages
