-- What the bytes that are held tell of what is left of a source, and of the length of the line that they begin with.
use Rattle.std.specs.Prelude.{ℕ, ◌+◌, ◌<◌, List, ◌++◌, length, take, Option, option_map}
use Rattle.log_messages.specs.Messages.{IsLine}

-- what is left in all, where the source tells it: the bytes that were taken and not given, and then those of the source
abbrev pub bytes_left : List ℕ → Option (List ℕ) → Option (List ℕ)
bytes_left held left = option_map (λ rest. held ++ rest) left

-- the line that the bytes begin with has more bytes without its newline than the limit
abbrev pub BeginsTooLong : ℕ → List ℕ → Type 0
BeginsTooLong max bytes = (max < length bytes) × IsLine (take (max + 1) bytes)
