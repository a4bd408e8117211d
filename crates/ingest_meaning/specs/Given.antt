-- Which messages a log gives, in words that say nothing of a log that does not tell its bytes.
use Rattle.std.specs.Prelude.{ℕ, Bool, List, Option, IfSome, take, ◌≡◌, Some, slice_get, [], ◌∷◌, ◌++◌}
use Rattle.std.specs.List.{Contains}
use Rattle.message_reader.specs.Versions.{MessagesOf}
use mathlib.Core.List.{IsPrefix}

-- The message is one of those that these bytes have in this version. Of a source that does not tell its bytes nothing is said.
abbrev pub IsOneOf : ℕ → Option (List ℕ) → List ℕ → Type 0
IsOneOf version bytes m = IfSome bytes (λ b. (messages : List (List ℕ)) (ended : Bool) → MessagesOf version b messages ended
    → Contains messages m)

-- The message is one of the first so many of those. Of a source that does not tell its bytes nothing is said.
abbrev pub IsAmongFirst : ℕ → Option (List ℕ) → ℕ → List ℕ → Type 0
IsAmongFirst version bytes count m = IfSome bytes (λ b. (messages : List (List ℕ)) (ended : Bool)
    → MessagesOf version b messages ended → Contains (take count messages) m)

-- It is the one behind so many.
abbrev pub IsMessageAt : ℕ → Option (List ℕ) → ℕ → List ℕ → Type 0
IsMessageAt version bytes place m = IfSome bytes (λ b. (messages : List (List ℕ)) (ended : Bool)
    → MessagesOf version b messages ended → slice_get messages place ≡ Some m)

-- These are the first of the messages that these bytes have in this version. Of a source that does not tell its bytes nothing is
-- said.
abbrev pub AreFirstOf : ℕ → Option (List ℕ) → List (List ℕ) → Type 0
AreFirstOf version bytes first = IfSome bytes (λ b. (messages : List (List ℕ)) (ended : Bool)
    → MessagesOf version b messages ended → IsPrefix first messages)

-- They are all the messages of these bytes.
abbrev pub AreAllOf : ℕ → Option (List ℕ) → List (List ℕ) → Type 0
AreAllOf version bytes all = IfSome bytes (λ b. (messages : List (List ℕ)) (ended : Bool) → MessagesOf version b messages ended
    → all ≡ messages)

-- the message is the next one behind these
abbrev pub IsNextOf : ℕ → Option (List ℕ) → List (List ℕ) → List ℕ → Type 0
IsNextOf version bytes sealed m = AreFirstOf version bytes (sealed ++ m ∷ [])
