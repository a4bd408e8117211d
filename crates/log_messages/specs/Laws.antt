-- What follows from the definition of messages.
use Rattle.std.specs.Prelude.{◌≡◌, ◌≢◌, ◌-◌, ℕ, Bool, true, false, List, [], ◌∷◌, ◌++◌, length, take}
use Rattle.log_messages.specs.Messages.{IsLine, Messages, joined}

-- the bytes of a file with these messages: the lines joined, without the last newline where the last line has none
abbrev pub file_text : List (List ℕ) → Bool → List ℕ
file_text lines true = joined lines
file_text lines false = take (length (joined lines) - 1) (joined lines)

-- every list of bytes has messages
abbrev pub MessagesExist : Type 0
MessagesExist = (bytes : List ℕ) → (lines : List (List ℕ)) × (ended : Bool) × Messages bytes lines ended

-- and only one answer fits
abbrev pub MessagesAgree : Type 0
MessagesAgree =
    (bytes : List ℕ) (lines lines' : List (List ℕ)) (ended ended' : Bool)
    → Messages bytes lines ended → Messages bytes lines' ended' → (lines ≡ lines') × (ended ≡ ended')

-- joining the messages back gives the bytes
abbrev pub MessagesJoinBack : Type 0
MessagesJoinBack =
    (bytes : List ℕ) (lines : List (List ℕ)) (ended : Bool) → Messages bytes lines ended → file_text lines ended ≡ bytes

-- no bytes have no messages, ended
abbrev pub NothingHasNoMessages : Type 0
NothingHasNoMessages = Messages [] [] true

-- a line with its newline before a file is its first message
abbrev pub LineComesFirst : Type 0
LineComesFirst =
    (line rest : List ℕ) (lines : List (List ℕ)) (ended : Bool)
    → IsLine line → Messages rest lines ended → Messages (line ++ 10 ∷ rest) (line ∷ lines) ended

-- text without a newline is one message, not ended
abbrev pub LastLineIsOpen : Type 0
LastLineIsOpen = (line : List ℕ) → IsLine line → line ≢ [] → Messages line (line ∷ []) false
