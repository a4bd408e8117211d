-- What the messages of a log are in an archive of each version.
use Rattle.std.specs.Prelude.{◌≡◌, ◌⊎◌, ◌+◌, ◌<◌, ℕ, Bool, List, [], ◌∷◌, ◌++◌, ◌==◌, if◌then◌else◌}
use Rattle.log_messages.specs.Groups.{GroupMessages}
use Rattle.time_patterns.specs.Stamps.{IsStamped}
use Rattle.line_cut.specs.Joining.{IsFirstOfGroups}
use Rattle.line_cut.specs.declared.cutter.TheConstants.{MAX_LINE_LEN}

-- from version 2 on a line with a stamp is the head of a message that may have more lines
abbrev pub IsHead : ℕ → List ℕ → Type 0
IsHead version line = (1 < version) × IsStamped version line

-- The messages of these bytes, and whether the last line had its newline: a head with the lines behind it that are none,
-- as far as the limit of bytes goes, and each other line by itself. So in version 1 they are the lines.
abbrev pub MessagesOf : ℕ → List ℕ → List (List ℕ) → Bool → Type 0
MessagesOf version bytes messages ended = GroupMessages (IsHead version) MAX_LINE_LEN bytes messages ended

-- these bytes are some whole lines at the front of those, each with its newline
abbrev pub AreWholeLines : List ℕ → List ℕ → Type 0
AreWholeLines front bytes =
    (front ≡ []) ⊎ ((lines rest : List ℕ) × (front ≡ lines ++ 10 ∷ []) × (bytes ≡ lines ++ 10 ∷ rest))

-- The text is the first message of the bytes before, and the others are those of the bytes behind it; without its last
-- newline it is the only one.
abbrev pub IsFirstOf : ℕ → Bool → List ℕ → List ℕ → List ℕ → Type 0
IsFirstOf version ended text before after = IsFirstOfGroups (IsHead version) MAX_LINE_LEN ended text before after

-- and it stays the first where only some whole lines of the bytes behind it are there
abbrev pub IsFirstOfLines : ℕ → List ℕ → List ℕ → Type 0
IsFirstOfLines version text after =
    (front : List ℕ) (messages : List (List ℕ)) (ended : Bool) → AreWholeLines front after
    → MessagesOf version front messages ended → MessagesOf version (text ++ 10 ∷ front) (text ∷ messages) ended

-- how many lines a message has
abbrev pub line_count : List ℕ → ℕ
line_count [] = 1
line_count (b ∷ bytes) = (if b == 10 then 1 else 0) + line_count bytes
