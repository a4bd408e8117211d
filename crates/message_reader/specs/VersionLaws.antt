-- What follows from the definition of the messages of a version.
use Rattle.std.specs.Prelude.{◌≡◌, ◌↔◌, ℕ, Bool, true, List, []}
use Rattle.log_messages.specs.Messages.{Messages}
use Rattle.log_messages.specs.Laws.{file_text}
use Rattle.message_reader.specs.Versions.{MessagesOf}

-- in version 1 the messages are the lines
abbrev pub LinesInVersionOne : Type 0
LinesInVersionOne =
    (bytes : List ℕ) (messages : List (List ℕ)) (ended : Bool)
    → MessagesOf 1 bytes messages ended ↔ Messages bytes messages ended

-- every list of bytes has messages
abbrev pub MessagesOfExist : Type 0
MessagesOfExist =
    (version : ℕ) (bytes : List ℕ) → (messages : List (List ℕ)) × (ended : Bool) × MessagesOf version bytes messages ended

-- and only one answer fits
abbrev pub MessagesOfAgree : Type 0
MessagesOfAgree =
    (version : ℕ) (bytes : List ℕ) (messages messages' : List (List ℕ)) (ended ended' : Bool)
    → MessagesOf version bytes messages ended → MessagesOf version bytes messages' ended'
    → (messages ≡ messages') × (ended ≡ ended')

-- joining the messages back gives the bytes
abbrev pub MessagesOfJoinBack : Type 0
MessagesOfJoinBack =
    (version : ℕ) (bytes : List ℕ) (messages : List (List ℕ)) (ended : Bool)
    → MessagesOf version bytes messages ended → file_text messages ended ≡ bytes

-- no bytes have no messages
abbrev pub NothingHasNone : Type 0
NothingHasNone = (version : ℕ) → MessagesOf version [] [] true
