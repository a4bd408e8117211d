-- What follows from the definition of the generated logs.
use Rattle.std.specs.Prelude.{◌≡◌, ◌≤◌, ℕ, true, List, All, length}
use Rattle.log_messages.specs.Messages.{Messages}
use Rattle.generated_logs.specs.Logs.{log_of}

-- the bytes are so many lines, each with its newline, and none of them has more than 58 bytes without it
pub record HasLines (bytes : List ℕ) (count : ℕ) : Type 0 where
  pub lines : List (List ℕ)
  pub are : Messages bytes lines true
  pub counted : length lines ≡ count
  pub short : All (λ line. length line ≤ 58) lines

-- each of the four logs has as many lines as it is made with
abbrev pub LogsHaveLines : Type 0
LogsHaveLines = (number lines f : ℕ) → f ≤ 3 → HasLines (log_of number lines f) lines
