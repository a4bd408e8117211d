-- What follows from the definition of messages that are groups of lines, for each test of which lines have a stamp.
use Rattle.std.specs.Prelude.{◌≡◌, ◌≢◌, ◌⊎◌, ℕ, Bool, true, false, List, [], ◌∷◌, ◌++◌, All, IsTrue}
use Rattle.log_messages.specs.Messages.{IsLine}
use Rattle.log_messages.specs.Laws.{file_text}
use Rattle.log_messages.specs.Groups.{Group, lines_of, text_of, last_line, BeginsBehind}
use Rattle.log_messages.specs.Groups.{GoesOn, IsGroup, IsFollowed, GroupMessages}

-- the lines that a test takes for stamped ones
abbrev pub Passes : (List ℕ → Bool) → List ℕ → Type 0
Passes test line = IsTrue (test line)

-- each line begins a message behind a group, or goes on in it
abbrev pub BeginsOrGoesOn : Type 0
BeginsOrGoesOn =
    (test : List ℕ → Bool) (limit : ℕ) (group : Group) (line : List ℕ)
    → BeginsBehind (Passes test) limit group line ⊎ GoesOn (Passes test) limit group line

-- and not both
abbrev pub NeverBoth : Type 0
NeverBoth =
    (test : List ℕ → Bool) (limit : ℕ) (group : Group) (line : List ℕ)
    → BeginsBehind (Passes test) limit group line → GoesOn (Passes test) limit group line → ⊥

-- every list of bytes has messages
abbrev pub GroupMessagesExist : Type 0
GroupMessagesExist =
    (test : List ℕ → Bool) (limit : ℕ) (bytes : List ℕ)
    → (messages : List (List ℕ)) × (ended : Bool) × GroupMessages (Passes test) limit bytes messages ended

-- and only one answer fits
abbrev pub GroupMessagesAgree : Type 0
GroupMessagesAgree =
    (test : List ℕ → Bool) (limit : ℕ) (bytes : List ℕ) (messages messages' : List (List ℕ)) (ended ended' : Bool)
    → GroupMessages (Passes test) limit bytes messages ended → GroupMessages (Passes test) limit bytes messages' ended'
    → (messages ≡ messages') × (ended ≡ ended')

-- joining the messages back gives the bytes
abbrev pub GroupMessagesJoinBack : Type 0
GroupMessagesJoinBack =
    (test : List ℕ → Bool) (limit : ℕ) (bytes : List ℕ) (messages : List (List ℕ)) (ended : Bool)
    → GroupMessages (Passes test) limit bytes messages ended → file_text messages ended ≡ bytes

-- no bytes have no messages, ended
abbrev pub NothingHasNoGroups : Type 0
NothingHasNoGroups = (test : List ℕ → Bool) (limit : ℕ) → GroupMessages (Passes test) limit [] [] true

-- a group with its newline before bytes that begin another message is one more message before theirs
abbrev pub GroupComesFirst : Type 0
GroupComesFirst =
    (test : List ℕ → Bool) (limit : ℕ) (group : Group) (rest : List ℕ) (messages : List (List ℕ)) (ended : Bool)
    → All IsLine (lines_of group) → IsGroup (Passes test) limit group → IsFollowed (Passes test) limit group rest
    → GroupMessages (Passes test) limit rest messages ended
    → GroupMessages (Passes test) limit (text_of group ++ 10 ∷ rest) (text_of group ∷ messages) ended

-- a group without its last newline is one message, not ended
abbrev pub LastGroupIsOpen : Type 0
LastGroupIsOpen =
    (test : List ℕ → Bool) (limit : ℕ) (group : Group)
    → All IsLine (lines_of group) → IsGroup (Passes test) limit group → last_line group.first group.later ≢ []
    → GroupMessages (Passes test) limit (text_of group) (text_of group ∷ []) false

-- what follows a group begins another message also where only some whole lines of it are taken
abbrev pub FollowedByLines : Type 0
FollowedByLines =
    (test : List ℕ → Bool) (limit : ℕ) (group : Group) (lines rest : List ℕ)
    → IsFollowed (Passes test) limit group (lines ++ 10 ∷ rest) → IsFollowed (Passes test) limit group (lines ++ 10 ∷ [])
