-- What is found at the front of the bytes held.
use Rattle.std.specs.Prelude.{◌≡◌, ◌+◌, ◌<◌, ◌≤◌, ℕ, Bool, List, [], length, take}
use Rattle.std.specs.Prelude.{drop, slice_get, Option, Some, IfSome, if◌then◌else◌}
use Rattle.log_messages.specs.Messages.{IsLine}
use Rattle.line_cut.specs.Length.{BeginsTooLong}
use Rattle.line_cut.specs.Standing.{EndsAt}
use Rattle.line_cut.specs.Cutting.{CutterState}
use Rattle.line_cut.specs.declared.cut.Cut.TheVariants.{ReadFault, LineTooLong, TooManyLines, OutOfMemory}
use Rattle.line_cut.specs.declared.cut.Progress.TheVariants.{Open, Ended}
use Rattle.line_cut.specs.declared.find_end.LineEnd.{LineEnd}
use Rattle.line_cut.specs.declared.find_end.LineEnd.TheVariants.{Newline, EndOfInput, TooLong}
use Rattle.line_cut.specs.declared.look.Looked.{Looked}
use Rattle.line_cut.specs.declared.look.Looked.TheVariants.{Line, End, Refused}

-- where the line that these bytes begin with ends, with a limit to its length; nothing more is left where the input ended
abbrev pub Found : ℕ → List ℕ → Option (List ℕ) → LineEnd → Type 0
Found max ahead left (Newline len) = (len ≤ max) × IsLine (take len ahead) × (slice_get ahead len ≡ Some 10)
Found max ahead left EndOfInput = (length ahead ≤ max) × IsLine ahead × IfSome left (λ rest. rest ≡ [])
Found max ahead left TooLong = BeginsTooLong max ahead

-- the numbers that a look goes by
pub record Limits : Type 0 where
  pub given : ℕ
  pub max_line : ℕ
  pub max_lines : ℕ

-- with limits to the length of a line and to the number of lines, of which some were given; `rose` says that a read failed
abbrev pub Sees : Limits → List ℕ → Option (List ℕ) → Type 0 → Looked → Type 0
Sees l held left rose (Line len ended) =
    (l.given < l.max_lines) × (len ≤ l.max_line)
    × IsLine (take len held) × EndsAt ended len held left
Sees l held left rose End = (held ≡ []) × IfSome left (λ rest. rest ≡ [])
Sees l held left rose (Refused ReadFault) = rose × IsLine held × (length held ≤ l.max_line) × (l.given ≡ l.max_lines → held ≡ [])
Sees l held left rose (Refused (LineTooLong line)) =
    (line ≡ l.given + 1) × (l.given < l.max_lines) × BeginsTooLong l.max_line held
Sees l held left rose (Refused TooManyLines) = (l.given ≡ l.max_lines) × (0 < length held)
Sees l held left rose (Refused OutOfMemory) = ⊥

-- how many bytes a newline has behind a line
abbrev pub newline_len : Bool → ℕ
newline_len ended = if ended then 1 else 0

-- the cutter at the line of the next so many bytes
abbrev pub at_line : {S : Type 0} → ℕ → Bool → CutterState S → CutterState S
at_line len ended c = record c {
  line = take len c.pending;
  pending = drop (len + newline_len ended) c.pending;
  given = c.given + 1;
  progress = if ended then Open else Ended;
}
