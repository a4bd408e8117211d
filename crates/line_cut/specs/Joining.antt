-- What a joiner is to its callers, and what its answers mean: a joiner gives messages that are groups of lines.
use Rattle.std.specs.Prelude.{◌≡◌, ◌≢◌, ◌⊎◌, ◌+◌, ◌<◌, ◌≤◌, ℕ, Bool, true, false, List, []}
use Rattle.std.specs.Prelude.{◌∷◌, ◌++◌, All, length, Option, None, IfSome, if◌then◌else◌}
use Rattle.log_seams.specs.Outside.{Rose}
use Rattle.log_messages.specs.Messages.{IsLine}
use Rattle.log_messages.specs.Groups.{Group, lines_of, text_of, last_line, IsGroup, IsFollowed, FirstLine, GroupMessages}
use Rattle.line_cut.specs.Length.{BeginsTooLong}
use Rattle.line_cut.specs.Cutting.{CutterState, CameToEnd, IsNew, Parts, Stays, left_of}
use Rattle.line_cut.specs.declared.cut.Cut.{Cut}
use Rattle.line_cut.specs.declared.cut.Cut.TheVariants.{ReadFault, LineTooLong, TooManyLines, OutOfMemory}
use Rattle.line_cut.specs.declared.cut.Progress.TheVariants.{Open, Ended, Refused}
use Rattle.line_cut.specs.declared.next_line.NextLine.{NextLine}

-- A joiner: a cutter that has messages where another has lines, its heads of messages, how many lines the messages have that
-- it gave, and what stands behind the last one, where it had to look at that.
pub record JoinerState (S T : Type 0) : Type 0 where
  pub cutter : CutterState S
  pub heads : T
  pub lines : ℕ
  pub behind : Option NextLine

-- the lines that begin a message
abbrev pub stamped_by : {S T : Type 0} → (T → List ℕ → Type 0) → JoinerState S T → List ℕ → Type 0
stamped_by starts j = starts j.heads

-- A joiner of a source that has read nothing, with these heads and these limits.
pub record IsNewJoiner {S T : Type 0} (source : S) (heads : T) (max_line max_messages : ℕ) (j : JoinerState S T) : Type 0 where
  pub cutter : IsNew source max_line max_messages j.cutter
  pub heads_are : j.heads ≡ heads
  pub lines : j.lines ≡ 0
  pub behind : j.behind ≡ None

-- What each call leaves alone: what a cutter does, and the heads.
pub record JoinerStays {S T : Type 0} (name : S → Option (List ℕ)) (faults : S → ℕ) (old new : JoinerState S T) : Type 0 where
  pub cutter : Stays name faults old.cutter new.cutter
  pub heads : new.heads ≡ old.heads

-- The text is one group of so many lines. Only a last one can be without its newline, and does not end with an empty line then.
pub record IsOneGroup (stamped : List ℕ → Type 0) (limit : ℕ) (ended : Bool) (lines : ℕ) (text : List ℕ) : Type 0 where
  pub group : Group
  pub is : text_of group ≡ text
  pub are_lines : All IsLine (lines_of group)
  pub is_group : IsGroup stamped limit group
  pub count : length (lines_of group) ≡ lines
  pub fits : length text ≤ limit
  pub last : ended ≡ false → last_line group.first group.later ≢ []

-- The text is the first message of what was left before, and the others are those of what is left after; without its last
-- newline it is the only one.
abbrev pub IsFirstOfGroups : (List ℕ → Type 0) → ℕ → Bool → List ℕ → List ℕ → List ℕ → Type 0
IsFirstOfGroups stamped limit true text before after =
    (messages : List (List ℕ)) (ended : Bool) → GroupMessages stamped limit after messages ended
    → GroupMessages stamped limit before (text ∷ messages) ended
IsFirstOfGroups stamped limit false text before after = GroupMessages stamped limit before (text ∷ []) false

-- A joiner gave a message, with its last newline or at the end of the input without. What is left begins another message.
-- It looks at no line behind a message that is a line without a stamp, since each line behind that begins another.
pub record GaveMessage {S T : Type 0} (left : S → Option (List ℕ)) (starts : T → List ℕ → Type 0)
    (ended : Bool) (text : List ℕ) (old new : JoinerState S T) : Type 0 where
  pub was_open : old.cutter.progress ≡ Open
  pub progress : new.cutter.progress ≡ (if ended then Open else Ended)
  pub within : old.cutter.given < old.cutter.max_lines
  pub given : new.cutter.given ≡ old.cutter.given + 1
  pub count : ℕ
  pub lines : new.lines ≡ old.lines + count
  pub is_group : IsOneGroup (stamped_by starts old) old.cutter.max_line ended count text
  pub followed : ended ≡ true
      → IfSome (left_of left new.cutter) (IsFollowed (stamped_by starts old) old.cutter.max_line is_group.group)
  pub alone : new.behind ≡ None → ended ≡ true → IsLine text × (¬ stamped_by starts old text)
  pub parts : Parts ended text (left_of left old.cutter) (left_of left new.cutter)
  pub message : IfSome (left_of left old.cutter) (λ before. IfSome (left_of left new.cutter)
      (IsFirstOfGroups (stamped_by starts old) old.cutter.max_line ended text before))

-- A joiner came to the end of the input, and is at no message.
pub record EndedJoining {S T : Type 0} (left : S → Option (List ℕ)) (old new : JoinerState S T) : Type 0 where
  pub cutter : CameToEnd left old.cutter new.cutter
  pub lines : new.lines ≡ old.lines

-- The bytes are a group that begins with a stamp, its newline, and the front of a line.
pub record IsTornGroup (stamped : List ℕ → Type 0) (limit : ℕ) (bytes : List ℕ) : Type 0 where
  pub group : Group
  pub part : List ℕ
  pub splits : bytes ≡ text_of group ++ 10 ∷ part
  pub are_lines : All IsLine (lines_of group)
  pub is_group : IsGroup stamped limit group
  pub has_stamp : stamped group.first
  pub fits : length (text_of group) ≤ limit
  pub no_newline : IsLine part
  pub short : length part ≤ limit

-- A read failed, and the bytes that were taken and not given are the front of a line, behind a message behind which nothing
-- was looked at; or, where a message may still be given, a group that begins with a stamp, and the front of a line. So the
-- messages that were given are those of the lines that ended in the bytes taken, without the last one where it has a stamp.
pub record IsJoinCutShort {S T : Type 0} (faults : S → ℕ) (starts : T → List ℕ → Type 0)
    (old new : JoinerState S T) : Type 0 where
  pub rose : Rose (faults old.cutter.source) (faults new.cutter.source)
  pub torn :
      ((old.behind ≡ None) × IsLine new.cutter.pending × (length new.cutter.pending ≤ old.cutter.max_line))
      ⊎ ((old.cutter.given < old.cutter.max_lines) × IsTornGroup (stamped_by starts old) old.cutter.max_line new.cutter.pending)

-- As many messages as the limit were given, and a whole line within the limit begins another.
pub record IsOneTooMany {S T : Type 0} (left : S → Option (List ℕ)) (old new : JoinerState S T) : Type 0 where
  pub at_limit : old.cutter.given ≡ old.cutter.max_lines
  pub line : List ℕ
  pub fits : length line ≤ old.cutter.max_line
  pub begins : FirstLine new.cutter.pending line
  pub of_all : IfSome (left_of left new.cutter) (λ bytes. FirstLine bytes line)

-- Why a joiner that was open refused: a read failed; a line is above the limit, with its number among all lines; or a line
-- within it is one message more than the limit. A line's length is tested first.
abbrev pub HasJoinCause : {S T : Type 0}
    → (S → Option (List ℕ)) → (S → ℕ) → (T → List ℕ → Type 0)
    → JoinerState S T → JoinerState S T → Cut → Type 0
HasJoinCause left faults starts old new ReadFault = IsJoinCutShort faults starts old new
HasJoinCause left faults starts old new (LineTooLong line) =
    (line ≡ old.lines + 1)
    × BeginsTooLong old.cutter.max_line new.cutter.pending
HasJoinCause left faults starts old new TooManyLines = IsOneTooMany left old new
HasJoinCause left faults starts old new OutOfMemory = old.cutter.given < old.cutter.max_lines

-- A joiner refused: it gave nothing and is at no message, and what is left is as it was.
pub record RefusedToJoin {S T : Type 0} (left : S → Option (List ℕ)) (faults : S → ℕ) (starts : T → List ℕ → Type 0)
    (old new : JoinerState S T) (cut : Cut) : Type 0 where
  pub progress : new.cutter.progress ≡ Refused cut
  pub given : new.cutter.given ≡ old.cutter.given
  pub lines : new.lines ≡ old.lines
  pub no_message : new.cutter.line ≡ []
  pub left_same : left_of left new.cutter ≡ left_of left old.cutter
  pub cause : old.cutter.progress ≡ Open → HasJoinCause left faults starts old new cut
