-- What the generated logs tell.
use Rattle.std.specs.Prelude.{ℕ, List, ◌++◌, Option, Some, None, get_or}
use Rattle.generated_logs.specs.Logs.{log_named}

-- a generated log that was opened: which one it is, what is left of the line that is read, and the lines behind it
pub record SourceState : Type 0 where
  pub log : ℕ
  pub line : List ℕ
  pub more : List ℕ

-- what is left of the log
abbrev pub left_in : SourceState → List ℕ
left_in s = s.line ++ s.more

-- the shelf of the four logs: the number that they are made from, how many lines each has, how often another name was
-- asked for, and each log as it was when it was closed last
pub record GeneratedState : Type 0 where
  pub number : ℕ
  pub lines : ℕ
  pub others : ℕ
  pub closed : List (Option SourceState)

-- what was left of the log of this name when it was closed last
abbrev pub left_of : Option SourceState → Option (List ℕ)
left_of None = None
left_of (Some s) = Some (left_in s)

abbrev pub unread_of_log : List (Option SourceState) → Option ℕ → Option (List ℕ)
unread_of_log closed None = None
unread_of_log closed (Some f) = left_of (get_or closed f None)

abbrev pub unread_of : GeneratedState → List ℕ → Option (List ℕ)
unread_of s name = unread_of_log s.closed (log_named name)

-- opening one of the four never fails; the other names share one count
abbrev pub faults_of_log : ℕ → Option ℕ → ℕ
faults_of_log others None = others
faults_of_log others (Some f) = 0

abbrev pub open_faults_of : GeneratedState → List ℕ → ℕ
open_faults_of s name = faults_of_log s.others (log_named name)
