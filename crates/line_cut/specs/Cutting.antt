-- What a cutter is to its callers, and what its answers mean.
use Rattle.std.specs.Prelude.{◌≡◌, ◌≢◌, ◌+◌, ◌<◌, ◌≤◌, ℕ, Bool, true, false, List, [], ◌∷◌, ◌++◌, length}
use Rattle.std.specs.Prelude.{Option, None, Result, Ok, Err, option_map, IfSome, if◌then◌else◌}
use Rattle.log_seams.specs.Outside.{Rose}
use Rattle.log_messages.specs.Messages.{IsLine, Messages}
use Rattle.line_cut.specs.Length.{BeginsTooLong, bytes_left}
use Rattle.line_cut.specs.declared.cut.Cut.{Cut}
use Rattle.line_cut.specs.declared.cut.Cut.TheVariants.{ReadFault, LineTooLong, TooManyLines, OutOfMemory}
use Rattle.line_cut.specs.declared.cut.Progress.{Progress}
use Rattle.line_cut.specs.declared.cut.Progress.TheVariants.{Open, Ended, Refused}

-- A cutter: its source, the bytes that it took and has not given, the line that it gave last, how many
-- it gave, its limits, how many bytes its buffer can hold, and how far it is.
pub record CutterState (S : Type 0) : Type 0 where
  pub source : S
  pub pending : List ℕ
  pub line : List ℕ
  pub given : ℕ
  pub max_line : ℕ
  pub max_lines : ℕ
  pub room : ℕ
  pub progress : Progress

-- the bytes that are left to be given, where the source tells its own
abbrev pub left_of : {S : Type 0} → (S → Option (List ℕ)) → CutterState S → Option (List ℕ)
left_of left c = bytes_left c.pending (left c.source)

-- the same cutter, at no line
abbrev pub without_line : {S : Type 0} → CutterState S → CutterState S
without_line c = record c { line = [] }

-- A cutter of a source that has read nothing, with these limits.
pub record IsNew {S : Type 0} (source : S) (max_line max_lines : ℕ) (c : CutterState S) : Type 0 where
  pub source_is : c.source ≡ source
  pub pending : c.pending ≡ []
  pub line : c.line ≡ []
  pub given : c.given ≡ 0
  pub line_limit : c.max_line ≡ max_line
  pub lines_limit : c.max_lines ≡ max_lines
  pub progress : c.progress ≡ Open

-- What each call leaves alone: the limits, the buffer and the source's name; the count of faults does not fall.
pub record Stays {S : Type 0} (name : S → Option (List ℕ)) (faults : S → ℕ) (old new : CutterState S) : Type 0 where
  pub max_line : new.max_line ≡ old.max_line
  pub max_lines : new.max_lines ≡ old.max_lines
  pub room : new.room ≡ old.room
  pub source : name new.source ≡ name old.source
  pub later : faults old.source ≤ faults new.source

-- What was left before is the line and its newline before what is left after, or without a newline it is
-- the line, and nothing is left after.
abbrev pub Parts : Bool → List ℕ → Option (List ℕ) → Option (List ℕ) → Type 0
Parts true line before after = before ≡ option_map (λ rest. line ++ 10 ∷ rest) after
Parts false line before after = (before ≡ option_map (λ _. line) after) × IfSome after (λ rest. rest ≡ [])

-- The line is the first message of what was left before, and the others are those of what is left after;
-- without a newline it is the only one.
abbrev pub IsFirstMessage : Bool → List ℕ → List ℕ → List ℕ → Type 0
IsFirstMessage true line before after =
    (lines : List (List ℕ)) (ended : Bool) → Messages after lines ended → Messages before (line ∷ lines) ended
IsFirstMessage false line before after = Messages before (line ∷ []) false

-- A cutter gave a line, with its newline or at the end of the input without one.
pub record Gave {S : Type 0} (left : S → Option (List ℕ)) (ended : Bool) (line : List ℕ) (old new : CutterState S) : Type 0 where
  pub was_open : old.progress ≡ Open
  pub progress : new.progress ≡ (if ended then Open else Ended)
  pub within : old.given < old.max_lines
  pub given : new.given ≡ old.given + 1
  pub is_line : IsLine line
  pub not_empty : ended ≡ false → line ≢ []
  pub fits : length line ≤ old.max_line
  pub parts : Parts ended line (left_of left old) (left_of left new)
  pub message : IfSome (left_of left old) (λ before. IfSome (left_of left new) (IsFirstMessage ended line before))

-- A cutter came to the end of the input, and is at no line.
pub record CameToEnd {S : Type 0} (left : S → Option (List ℕ)) (old new : CutterState S) : Type 0 where
  pub progress : new.progress ≡ Ended
  pub given : new.given ≡ old.given
  pub no_line : new.line ≡ []
  pub left_same : left_of left new ≡ left_of left old
  pub pending : old.progress ≡ Open → new.pending ≡ []
  pub nothing : old.progress ≡ Open → IfSome (left_of left old) (λ bytes. bytes ≡ [])

-- A read failed, and the bytes that were taken and not given hold no newline; behind as many lines as the
-- limit there are none. So the lines that were given are those that ended in the bytes taken.
pub record IsCutShort {S : Type 0} (faults : S → ℕ) (old new : CutterState S) : Type 0 where
  pub rose : Rose (faults old.source) (faults new.source)
  pub no_newline : IsLine new.pending
  pub short : length new.pending ≤ old.max_line
  pub at_limit : old.given ≡ old.max_lines → new.pending ≡ []

-- Why a cutter that was open refused, with the bytes that it took and has not given: a read failed; they
-- begin with a line above the limit; or there are some, behind as many lines as the limit.
abbrev pub HasCause : {S : Type 0} → (S → ℕ) → CutterState S → CutterState S → Cut → Type 0
HasCause faults old new ReadFault = IsCutShort faults old new
HasCause faults old new (LineTooLong line) =
    (line ≡ old.given + 1) × (old.given < old.max_lines) × BeginsTooLong old.max_line new.pending
HasCause faults old new TooManyLines = (old.given ≡ old.max_lines) × (0 < length new.pending)
HasCause faults old new OutOfMemory = Unit {0}

-- A cutter refused: it gave nothing and is at no line, and what is left is as it was.
pub record RefusedBy {S : Type 0} (left : S → Option (List ℕ)) (faults : S → ℕ)
    (old new : CutterState S) (cut : Cut) : Type 0 where
  pub progress : new.progress ≡ Refused cut
  pub given : new.given ≡ old.given
  pub no_line : new.line ≡ []
  pub left_same : left_of left new ≡ left_of left old
  pub cause : old.progress ≡ Open → HasCause faults old new cut

-- Behind the end and behind a refusal the answer is the same again, and no more is done than that the line is let go.
abbrev pub Repeats : {S A : Type 0} → Progress → CutterState S → CutterState S → Result (Option A) Cut → Type 0
Repeats Open old new result = Unit {0}
Repeats Ended old new result = (result ≡ Ok None) × (new ≡ without_line old)
Repeats (Refused cut) old new result = (result ≡ Err cut) × (new ≡ without_line old)
