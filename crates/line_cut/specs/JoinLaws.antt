-- What the answers of a joiner mean together.
use Rattle.std.specs.Prelude.{◌≡◌, ◌≤◌, ℕ, Bool, true, List, [], ◌∷◌, ◌++◌, length}
use Rattle.log_messages.specs.Groups.{text_of, FirstLine, GroupMessages}
use Rattle.log_messages.specs.GroupLaws.{Passes}
use Rattle.line_cut.specs.Joining.{IsTornGroup}
use Rattle.line_cut.specs.Length.{BeginsTooLong}

-- a torn group is whole lines and the front of another, and the whole lines are one message, which begins with a stamp
abbrev pub TornGroupIsOneMessage : Type 0
TornGroupIsOneMessage =
    (test : List ℕ → Bool) (limit : ℕ) (bytes : List ℕ) (torn : IsTornGroup (Passes test) limit bytes)
    → (bytes ≡ (text_of torn.group ++ 10 ∷ []) ++ torn.part)
    × GroupMessages (Passes test) limit (text_of torn.group ++ 10 ∷ []) (text_of torn.group ∷ []) true
    × Passes test torn.group.first

-- a line that is one message too many is not too long
abbrev pub WholeLineIsNotTooLong : Type 0
WholeLineIsNotTooLong = (max : ℕ) (bytes line : List ℕ) → FirstLine bytes line → length line ≤ max → BeginsTooLong max bytes → ⊥
