-- What stands at the front of some bytes that were taken, with a limit to the length of a line.
use Rattle.std.specs.Prelude.{◌≡◌, ◌<◌, ◌≤◌, ℕ, Bool, true, false, List, [], length, take, slice_get, Option, Some, IfSome}
use Rattle.log_messages.specs.Messages.{IsLine}
use Rattle.line_cut.specs.Length.{BeginsTooLong}
use Rattle.line_cut.specs.declared.next_line.NextLine.{NextLine}
use Rattle.line_cut.specs.declared.next_line.NextLine.TheVariants.{Whole, Nothing, TooLong}

-- behind so many bytes stands a newline, or the input ends there and they are some
abbrev pub EndsAt : Bool → ℕ → List ℕ → Option (List ℕ) → Type 0
EndsAt true len held left = slice_get held len ≡ Some 10
EndsAt false len held left = (len ≡ length held) × (0 < len) × IfSome left (λ rest. rest ≡ [])

-- a whole line within the limit, nothing more, or a line above the limit
abbrev pub Stands : ℕ → List ℕ → Option (List ℕ) → NextLine → Type 0
Stands max held left (Whole len ended) = (len ≤ max) × IsLine (take len held) × EndsAt ended len held left
Stands max held left Nothing = (held ≡ []) × IfSome left (λ rest. rest ≡ [])
Stands max held left TooLong = BeginsTooLong max held
