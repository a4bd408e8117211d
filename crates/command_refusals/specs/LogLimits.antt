-- What a log may have, and what it is for one of its lines to be too long.
use Rattle.std.specs.Prelude.{◌≡◌, ◌<◌, ◌+◌, ℕ, List, Bool, Some, length, slice_get}
use Rattle.log_messages.specs.Messages.{Messages}
use Rattle.line_cut.specs.declared.cutter.TheConstants.{MAX_LINE_LEN}
use Rattle.archive_meaning.specs.declared.TheConstants.{MAX_MESSAGES}

-- what one line may have, and one log
abbrev pub most_bytes : ℕ
most_bytes = MAX_LINE_LEN

abbrev pub most_messages : ℕ
most_messages = MAX_MESSAGES

-- the message of a number is there, and is too long
pub record IsLong (bytes : List ℕ) (number : ℕ) : Type 0 where
  pub before : ℕ
  pub follows : number ≡ before + 1
  pub messages : List (List ℕ)
  pub ended : Bool
  pub are : Messages bytes messages ended
  pub message : List ℕ
  pub stands : slice_get messages before ≡ Some message
  pub long : most_bytes < length message
