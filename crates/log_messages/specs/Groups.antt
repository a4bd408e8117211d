-- The messages of a log in which a line with a stamp and the lines without one behind it are one message.
-- Which lines have a stamp is a test, `stamped`. How many bytes the lines of one message may have together is a limit.
use Rattle.std.specs.Prelude.{◌≡◌, ◌≢◌, ◌<◌, ◌≤◌, ◌⊎◌, ℕ, Bool, List, [], ◌∷◌, ◌++◌, All, length, map}
use Rattle.std.specs.List.{flat_map}
use Rattle.log_messages.specs.Messages.{IsLine, Messages}

-- the lines of one message: the first, and those that belong to it
pub record Group : Type 0 where
  pub first : List ℕ
  pub later : List (List ℕ)

abbrev pub lines_of : Group → List (List ℕ)
lines_of group = group.first ∷ group.later

-- the message: the lines with a newline between them
abbrev pub text_of : Group → List ℕ
text_of group = group.first ++ flat_map (λ line. 10 ∷ line) group.later

-- A line begins a message behind this one where it has a stamp, or the first line of this one has none, or both with a
-- newline between them have more bytes than the limit.
abbrev pub BeginsBehind : (List ℕ → Type 0) → ℕ → Group → List ℕ → Type 0
BeginsBehind stamped limit group line = stamped line ⊎ ((¬ stamped group.first) ⊎ (limit < length (text_of group ++ 10 ∷ line)))

-- it belongs to the same message where none of these holds
abbrev pub GoesOn : (List ℕ → Type 0) → ℕ → Group → List ℕ → Type 0
GoesOn stamped limit group line = (¬ stamped line) × stamped group.first × (length (text_of group ++ 10 ∷ line) ≤ limit)

-- each later line belongs to the message of the lines before it
abbrev pub IsGroup : (List ℕ → Type 0) → ℕ → Group → Type 0
IsGroup stamped limit group =
    (before : List (List ℕ)) (line : List ℕ) (behind : List (List ℕ)) → group.later ≡ before ++ line ∷ behind
    → GoesOn stamped limit (record { first = group.first; later = before }) line

-- the first line of each group begins a message behind the group before it
abbrev pub AreApart : (List ℕ → Type 0) → ℕ → List Group → Type 0
AreApart stamped limit groups =
    (before : List Group) (group next : Group) (behind : List Group) → groups ≡ before ++ group ∷ next ∷ behind
    → BeginsBehind stamped limit group next.first

-- the lines are cut into these groups
pub record AreGroups (stamped : List ℕ → Type 0) (limit : ℕ) (lines : List (List ℕ)) (groups : List Group) : Type 0 where
  pub cut : lines ≡ flat_map lines_of groups
  pub within : All (IsGroup stamped limit) groups
  pub apart : AreApart stamped limit groups

-- The messages of these bytes where a message is a group of lines, and whether the last line had its newline.
pub record GroupMessages (stamped : List ℕ → Type 0) (limit : ℕ) (bytes : List ℕ) (messages : List (List ℕ))
    (ended : Bool) : Type 0 where
  pub lines : List (List ℕ)
  pub are_lines : Messages bytes lines ended
  pub groups : List Group
  pub are_groups : AreGroups stamped limit lines groups
  pub are : messages ≡ map text_of groups

-- the first line of the bytes: before their first newline, or all of them where they have none
abbrev pub FirstLine : List ℕ → List ℕ → Type 0
FirstLine bytes line = IsLine line × (((bytes ≡ line) × (line ≢ [])) ⊎ ((rest : List ℕ) × (bytes ≡ line ++ 10 ∷ rest)))

-- what follows the group, if anything does, begins with a line that begins a message behind it
abbrev pub IsFollowed : (List ℕ → Type 0) → ℕ → Group → List ℕ → Type 0
IsFollowed stamped limit group rest = (line : List ℕ) → FirstLine rest line → BeginsBehind stamped limit group line

-- the last line of a message
abbrev pub last_line : List ℕ → List (List ℕ) → List ℕ
last_line first [] = first
last_line first (line ∷ lines) = last_line line lines
