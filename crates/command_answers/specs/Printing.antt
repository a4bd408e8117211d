-- What is printed of the messages of a log.
use Rattle.std.specs.Prelude.{◌≡◌, ◌<◌, ◌≤◌, ◌+◌, ◌-◌, ℕ, List, [], ◌∷◌, ◌++◌, Bool, true, false, Option, Some, None, IfSome, All, length, take}
use Rattle.log_messages.specs.Messages.{IsLine, Messages, joined}
use Rattle.log_seams.specs.Outside.{Adds}
use Rattle.sink_pieces.specs.Output.{Took}
use Rattle.command_refusals.specs.declared.outcome.LogRefusal.{LogRefusal}
use Rattle.command_refusals.specs.LogLimits.{IsLong, most_bytes, most_messages}
use Rattle.command_refusals.specs.declared.outcome.LogRefusal.TheVariants.{OpenFault, ReadFault, LineTooLong, TooManyLines, SinkFault, OutOfMemory, OutOfMemory as LogOutOfMemory}
use Rattle.command_refusals.specs.Outside.{Outside}
use Rattle.command_refusals.specs.Ending.{RoseIn, TookNothing}

-- The texts of the messages one after the other, where the first message
-- has this number and `tells` says which text a message of a number has.
abbrev pub Prints : (ℕ → List ℕ → List ℕ → Type 0) → ℕ → List (List ℕ) → List ℕ → Type 0
Prints tells number [] text = text ≡ []
Prints tells number (message ∷ messages) text =
    (first : List ℕ) × (rest : List ℕ)
    × (text ≡ first ++ rest)
    × tells number message first × Prints tells (number + 1) messages rest

-- no message of these is too long
abbrev pub AreShort : List (List ℕ) → Type 0
AreShort messages = All (λ m. length m ≤ most_bytes) messages

-- the text is that of all messages of the bytes, which keep to both limits
pub record PrintsAll (tells : ℕ → List ℕ → List ℕ → Type 0) (bytes text : List ℕ) : Type 0 where
  pub messages : List (List ℕ)
  pub ended : Bool
  pub are : Messages bytes messages ended
  pub few : length messages ≤ most_messages
  pub short : AreShort messages
  pub prints : Prints tells 1 messages text

-- the text is that of the first so many messages of the bytes, which keep to both limits
pub record PrintsFirst (tells : ℕ → List ℕ → List ℕ → Type 0) (bytes : List ℕ) (count : ℕ) (text : List ℕ) : Type 0 where
  pub messages : List (List ℕ)
  pub ended : Bool
  pub are : Messages bytes messages ended
  pub enough : count ≤ length messages
  pub few : count ≤ most_messages
  pub short : AreShort (take count messages)
  pub prints : Prints tells 1 (take count messages) text

-- there are more messages than so many
pub record HasMore (bytes : List ℕ) (count : ℕ) : Type 0 where
  pub messages : List (List ℕ)
  pub ended : Bool
  pub are : Messages bytes messages ended
  pub more : count < length messages

-- the text is that of some first messages
abbrev pub PrintsSome : (ℕ → List ℕ → List ℕ → Type 0) → List ℕ → List ℕ → Type 0
PrintsSome tells bytes text = (count : ℕ) × PrintsFirst tells bytes count text

-- The text is that of the lines that ended with a newline in the bytes
-- before these, which were not read. A line that was begun is not
-- too long yet, and none was begun behind as many as may be.
pub record PrintsBefore (tells : ℕ → List ℕ → List ℕ → Type 0) (bytes unread text : List ℕ) : Type 0 where
  pub lines : List (List ℕ)
  pub begun : List ℕ
  pub are : All IsLine lines
  pub no_newline : IsLine begun
  pub begins : bytes ≡ joined lines ++ (begun ++ unread)
  pub few : length lines ≤ most_messages
  pub short : AreShort lines
  pub short_yet : length begun ≤ most_bytes
  pub none_behind : length lines ≡ most_messages → begun ≡ []
  pub prints : Prints tells 1 lines text

-- The text that the printing of a log's bytes comes to when it ends with this answer, where no refusal is `None`, and
-- these bytes of the log are left that were not read.
abbrev pub ComesTo : (ℕ → List ℕ → List ℕ → Type 0) → Option LogRefusal → List ℕ → Option (List ℕ) → List ℕ → Type 0
ComesTo tells None bytes unread text = PrintsAll tells bytes text
ComesTo tells (Some OpenFault) bytes unread text = text ≡ []
ComesTo tells (Some ReadFault) bytes unread text = (rest : List ℕ) × (unread ≡ Some rest) × PrintsBefore tells bytes rest text
ComesTo tells (Some (LineTooLong line)) bytes unread text =
    (line ≤ most_messages) × IsLong bytes line
    × PrintsFirst tells bytes (line - 1) text
ComesTo tells (Some TooManyLines) bytes unread text = HasMore bytes most_messages × PrintsFirst tells bytes most_messages text
ComesTo tells (Some SinkFault) bytes unread text = PrintsSome tells bytes text
ComesTo tells (Some OutOfMemory) bytes unread text = PrintsSome tells bytes text

-- whether all of the text goes out that the printing comes to, or only a front of it
abbrev pub is_whole : Option LogRefusal → Bool
is_whole (Some SinkFault) = false
is_whole (Some OutOfMemory) = false
is_whole _ = true

-- What the printing of a log has printed when it ends with this answer: where the log's bytes are
-- told, it is the text of its messages, of those before the fault, or a front of such a text.
pub record Printed (tells : ℕ → List ℕ → List ℕ → Type 0) (answer : Option LogRefusal)
    (bytes unread old new : Option (List ℕ)) : Type 0 where
  pub text : List ℕ
  pub comes_to : IfSome bytes (λ b. ComesTo tells answer b unread text)
  pub took : Took (is_whole answer) old new text

-- Of a log one was opened of which reads failed, and it was closed last: what is unread is what that one left, and all reads
-- that failed meanwhile are its own.
pub record OneFailed {S : Type 0} (left : S → Option (List ℕ)) (faults : S → ℕ) (unread : Option (List ℕ))
    (before after : ℕ) : Type 0 where
  pub source : S
  pub unread_is : unread ≡ left source
  pub its_own : Adds (faults source) before after

-- What an answer of the printing of a log rests on, beside what was printed. Want of memory is free.
abbrev pub HasCause : Outside → List ℕ → Option LogRefusal → Type 0
HasCause seen name None = Unit {0}
HasCause seen name (Some OpenFault) = RoseIn (seen.opens name) × TookNothing seen.out
HasCause seen name (Some ReadFault) = RoseIn (seen.reads name)
HasCause seen name (Some (LineTooLong line)) = Unit {0}
HasCause seen name (Some TooManyLines) = Unit {0}
HasCause seen name (Some SinkFault) = RoseIn seen.out_faults
HasCause seen name (Some LogOutOfMemory) = Unit {0}
