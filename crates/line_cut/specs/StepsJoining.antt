-- What is found at the front of the bytes held, where lines are joined.
use Rattle.std.specs.Prelude.{◌≡◌, ◌≢◌, ◌⊎◌, ◌+◌, ◌<◌, ◌≤◌, ℕ, Bool, true, false, List, [], ◌++◌, All}
use Rattle.std.specs.Prelude.{IsTrue, IsFalse, length, take, drop, slice_get, Option, None, Some, IfSome}
use Rattle.log_messages.specs.Messages.{IsLine}
use Rattle.log_messages.specs.Groups.{Group, lines_of, text_of, last_line, IsGroup, IsFollowed, FirstLine}
use Rattle.line_cut.specs.Length.{BeginsTooLong}
use Rattle.line_cut.specs.Joining.{IsTornGroup, JoinerState}
use Rattle.line_cut.specs.Standing.{EndsAt, Stands}
use Rattle.line_cut.specs.StepsLooking.{newline_len, at_line}
use Rattle.line_cut.specs.declared.cut.Cut.TheVariants.{ReadFault, LineTooLong, TooManyLines, OutOfMemory}
use Rattle.line_cut.specs.declared.join.Further.{Further}
use Rattle.line_cut.specs.declared.join.Joined.{Joined}
use Rattle.line_cut.specs.declared.next_line.NextLine.{NextLine}
use Rattle.line_cut.specs.declared.next_line.NextLine.TheVariants.{Whole, Nothing, TooLong}
use Rattle.line_cut.specs.declared.message.Seen.{Seen}
use Rattle.line_cut.specs.declared.message.Seen.TheVariants.{Message, End, Refused}

-- so much of the front is a group that begins with a stamp, and its newline follows
pub record Growing (stamped : List ℕ → Type 0) (limit : ℕ) (held : List ℕ) (len lines : ℕ) : Type 0 where
  pub group : Group
  pub text : text_of group ≡ take len held
  pub are_lines : All IsLine (lines_of group)
  pub is_group : IsGroup stamped limit group
  pub has_stamp : stamped group.first
  pub count : length (lines_of group) ≡ lines
  pub newline : slice_get held len ≡ Some 10
  pub fits : len ≤ limit
  pub few : lines ≤ len + 1

-- a message at the front, what follows, and what was seen behind it
pub record IsInFront (stamped : List ℕ → Type 0) (limit : ℕ) (held : List ℕ) (left : Option (List ℕ)) (j : Joined) : Type 0 where
  pub group : Group
  pub text : text_of group ≡ take j.len held
  pub are_lines : All IsLine (lines_of group)
  pub is_group : IsGroup stamped limit group
  pub count : length (lines_of group) ≡ j.lines
  pub few : j.lines ≤ j.len + 1
  pub fits : j.len ≤ limit
  pub ends : EndsAt j.ended j.len held left
  pub last : j.ended ≡ false → last_line group.first group.later ≢ []
  pub followed : j.ended ≡ true → IfSome left (λ rest. IsFollowed stamped limit group (drop (j.len + 1) held ++ rest))
  pub behind : IfSome j.behind (Stands limit (drop (j.len + newline_len j.ended) held) left)
  pub alone : j.behind ≡ None → j.ended ≡ true → IsLine (take j.len held) × (¬ stamped (take j.len held))

-- the next line begins another message behind a group with a stamp that ends before `from`
abbrev pub IsApart : (List ℕ → Type 0) → ℕ → List ℕ → ℕ → NextLine → Type 0
IsApart stamped limit held from (Whole len ended) = (limit < from + len) ⊎ stamped (take len (drop from held))
IsApart stamped limit held from Nothing = Unit {0}
IsApart stamped limit held from TooLong = Unit {0}

-- it is this line, which goes on in the group
pub record IsFurther (stamped : List ℕ → Type 0) (limit : ℕ) (held : List ℕ) (from : ℕ)
    (next : NextLine) (more : Further) : Type 0 where
  pub is : next ≡ Whole more.len more.ended
  pub fits : from + more.len ≤ limit
  pub no_stamp : ¬ stamped (take more.len (drop from held))

-- the line at the front has so many bytes, and is there at all
abbrev pub Reaches : ℕ → NextLine → Type 0
Reaches room (Whole len ended) = len ≤ room
Reaches room Nothing = Unit {0}
Reaches room TooLong = Unit {0}

-- a whole first line
pub record BeginsWhole (limit : ℕ) (held : List ℕ) (left : Option (List ℕ)) : Type 0 where
  pub line : List ℕ
  pub fits : length line ≤ limit
  pub begins : FirstLine held line
  pub of_all : IfSome left (λ rest. FirstLine (held ++ rest) line)

-- what a look for a message found, with the number of the line at the front, a limit, and whether a message may be given;
-- `behind` is what was known before, and `rose` says that a read failed
abbrev pub Finds : (List ℕ → Type 0) → ℕ → ℕ → Bool → Option NextLine → List ℕ → Option (List ℕ) → Type 0 → Seen → Type 0
Finds stamped number limit room behind held left rose (Message j) = IsTrue room × IsInFront stamped limit held left j
Finds stamped number limit room behind held left rose End = (held ≡ []) × IfSome left (λ rest. rest ≡ [])
Finds stamped number limit room behind held left rose (Refused ReadFault) =
    rose × (((behind ≡ None) × IsLine held × (length held ≤ limit)) ⊎ (IsTrue room × IsTornGroup stamped limit held))
Finds stamped number limit room behind held left rose (Refused (LineTooLong line)) = (line ≡ number) × BeginsTooLong limit held
Finds stamped number limit room behind held left rose (Refused TooManyLines) = IsFalse room × BeginsWhole limit held left
Finds stamped number limit room behind held left rose (Refused OutOfMemory) = ⊥

-- the joiner at a message
abbrev pub at_message : {S T : Type 0} → Joined → JoinerState S T → JoinerState S T
at_message m j = record j {
  cutter = at_line m.len m.ended j.cutter;
  lines = j.lines + m.lines;
  behind = m.behind;
}
