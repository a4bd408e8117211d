-- What a reader of messages is to its callers, and what its answers mean.
use Rattle.std.specs.Prelude.{◌≡◌, ◌≢◌, ◌⊎◌, ◌+◌, ◌<◌, ◌≤◌, ℕ, Bool, true, false, List, [], ◌∷◌}
use Rattle.std.specs.Prelude.{◌++◌, length, Option, None, Result, Ok, Err, IfSome, if◌then◌else◌}
use Rattle.log_seams.specs.Outside.{Rose}
use Rattle.log_messages.specs.Messages.{IsLine}
use Rattle.log_messages.specs.Groups.{FirstLine}
use Rattle.row_codec.specs.Messages.{IsMessage}
use Rattle.line_cut.specs.Cutting.{Parts}
use Rattle.line_cut.specs.Length.{BeginsTooLong, bytes_left}
use Rattle.line_cut.specs.declared.cut.Cut.{Cut}
use Rattle.line_cut.specs.declared.cut.Cut.TheVariants.{ReadFault, LineTooLong, TooManyLines, OutOfMemory}
use Rattle.line_cut.specs.declared.cut.Progress.{Progress}
use Rattle.line_cut.specs.declared.cut.Progress.TheVariants.{Open, Ended, Refused}
use Rattle.line_cut.specs.declared.cutter.TheConstants.{MAX_LINE_LEN}
use Rattle.message_reader.specs.declared.reader.TheConstants.{MAX_MESSAGES}
use Rattle.message_reader.specs.Versions.{IsFirstOf, IsFirstOfLines, IsHead, MessagesOf, line_count}

-- A reader: the version of the archive, its source, the bytes that it took and has not given, the message that it gave
-- last, how many messages it gave and how many lines they have, whether it has looked at a line behind the last one, and
-- how far it is.
pub record ReaderState (S : Type 0) : Type 0 where
  pub version : ℕ
  pub source : S
  pub pending : List ℕ
  pub message : List ℕ
  pub given : ℕ
  pub lines : ℕ
  pub looked : Bool
  pub progress : Progress

-- the bytes that are left to be given, where the source tells its own
abbrev pub left_of : {S : Type 0} → (S → Option (List ℕ)) → ReaderState S → Option (List ℕ)
left_of left r = bytes_left r.pending (left r.source)

-- A reader for this version, of a source that has read nothing.
pub record IsNewReader {S : Type 0} (version : ℕ) (source : S) (r : ReaderState S) : Type 0 where
  pub version_is : r.version ≡ version
  pub source_is : r.source ≡ source
  pub pending : r.pending ≡ []
  pub message : r.message ≡ []
  pub given : r.given ≡ 0
  pub lines : r.lines ≡ 0
  pub looked : r.looked ≡ false
  pub progress : r.progress ≡ Open

-- What each call leaves alone: the version and the source's name; the count of faults does not fall.
pub record ReaderStays {S : Type 0} (name : S → Option (List ℕ)) (faults : S → ℕ) (old new : ReaderState S) : Type 0 where
  pub version : new.version ≡ old.version
  pub source : name new.source ≡ name old.source
  pub later : faults old.source ≤ faults new.source

-- the text has a last byte, which is no newline
abbrev pub HasOpenEnd : List ℕ → Type 0
HasOpenEnd text = (front : List ℕ) × (last : ℕ) × (text ≡ front ++ last ∷ []) × (last ≢ 10)

-- A reader gave a message, with its last newline or at the end of the input without. It is the first of what was left, and
-- what is left has the others. Where no line was looked at behind it, it is a line without a stamp, or of version 1.
pub record ReadMessage {S : Type 0} (left : S → Option (List ℕ)) (ended : Bool) (old new : ReaderState S) : Type 0 where
  pub was_open : old.progress ≡ Open
  pub progress : new.progress ≡ (if ended then Open else Ended)
  pub within : old.given < MAX_MESSAGES
  pub given : new.given ≡ old.given + 1
  pub lines : new.lines ≡ old.lines + line_count new.message
  pub is_message : IsMessage old.version new.message
  pub open_end : ended ≡ false → HasOpenEnd new.message
  pub alone : new.looked ≡ false → ended ≡ true → IsLine new.message × (¬ IsHead old.version new.message)
  pub parts : Parts ended new.message (left_of left old) (left_of left new)
  pub first : IfSome (left_of left old) (λ before. IfSome (left_of left new) (IsFirstOf old.version ended new.message before))
  pub of_lines : ended ≡ true → IfSome (left_of left new) (IsFirstOfLines old.version new.message)

-- A reader came to the end of the input, and is at no message.
pub record ReadToEnd {S : Type 0} (left : S → Option (List ℕ)) (old new : ReaderState S) : Type 0 where
  pub progress : new.progress ≡ Ended
  pub given : new.given ≡ old.given
  pub lines : new.lines ≡ old.lines
  pub no_message : new.message ≡ []
  pub left_same : left_of left new ≡ left_of left old
  pub pending : old.progress ≡ Open → new.pending ≡ []
  pub nothing : old.progress ≡ Open → IfSome (left_of left old) (λ bytes. bytes ≡ [])

-- The bytes are a message with a stamp, its newline, and the front of a line, which might belong to it.
pub record IsTornMessage (version : ℕ) (bytes : List ℕ) : Type 0 where
  pub text : List ℕ
  pub part : List ℕ
  pub splits : bytes ≡ text ++ 10 ∷ part
  pub is_message : MessagesOf version (text ++ 10 ∷ []) (text ∷ []) true
  pub stamped : IsHead version text
  pub no_newline : IsLine part
  pub fits : length text ≤ MAX_LINE_LEN
  pub short : length part ≤ MAX_LINE_LEN

-- A read failed, and the bytes that were taken and not given are the front of a line, behind a message behind which nothing
-- was looked at; or a message with a stamp, and the front of a line. So the messages that were given are those of the lines
-- that ended in the bytes taken, in versions above 1 without the last one where it has a stamp.
pub record IsCutOff {S : Type 0} (faults : S → ℕ) (old new : ReaderState S) : Type 0 where
  pub rose : Rose (faults old.source) (faults new.source)
  pub torn :
      ((old.looked ≡ false) × IsLine new.pending × (length new.pending ≤ MAX_LINE_LEN))
      ⊎ ((old.given < MAX_MESSAGES) × IsTornMessage old.version new.pending)
  pub at_limit : old.version ≡ 1 → old.given ≡ MAX_MESSAGES → new.pending ≡ []

-- a whole line within the limit stands at the front of the bytes taken and of all that is left
pub record BeginsWithLine (bytes : List ℕ) (left : Option (List ℕ)) : Type 0 where
  pub line : List ℕ
  pub fits : length line ≤ MAX_LINE_LEN
  pub taken : FirstLine bytes line
  pub of_all : IfSome left (λ all. FirstLine all line)

-- As many messages as the limit were given, and more is left. In version 1 this is tested before the length of a line, in
-- the others behind it.
pub record IsOneMore {S : Type 0} (left : S → Option (List ℕ)) (old new : ReaderState S) : Type 0 where
  pub at_limit : old.given ≡ MAX_MESSAGES
  pub some : 0 < length new.pending
  pub whole : 1 < old.version → BeginsWithLine new.pending (left_of left new)

-- What is left begins with a line above the limit, whose number counts all lines from 1.
pub record IsAboveLimit {S : Type 0} (line : ℕ) (old new : ReaderState S) : Type 0 where
  pub number : line ≡ old.lines + 1
  pub begins : BeginsTooLong MAX_LINE_LEN new.pending
  pub within : old.version ≡ 1 → old.given < MAX_MESSAGES

-- Why a reader that was open refused. Want of memory is no cause.
abbrev pub HasReadCause : {S : Type 0} → (S → Option (List ℕ)) → (S → ℕ) → ReaderState S → ReaderState S → Cut → Type 0
HasReadCause left faults old new ReadFault = IsCutOff faults old new
HasReadCause left faults old new (LineTooLong line) = IsAboveLimit line old new
HasReadCause left faults old new TooManyLines = IsOneMore left old new
HasReadCause left faults old new OutOfMemory = ⊥

-- A reader refused: it gave nothing and is at no message, and what is left is as it was.
pub record RefusedToRead {S : Type 0} (left : S → Option (List ℕ)) (faults : S → ℕ)
    (old new : ReaderState S) (cut : Cut) : Type 0 where
  pub progress : new.progress ≡ Refused cut
  pub given : new.given ≡ old.given
  pub lines : new.lines ≡ old.lines
  pub no_message : new.message ≡ []
  pub left_same : left_of left new ≡ left_of left old
  pub cause : old.progress ≡ Open → HasReadCause left faults old new cut

-- nothing was read
abbrev pub ReadsNothing : {S : Type 0} → ReaderState S → ReaderState S → Type 0
ReadsNothing old new = (new.source ≡ old.source) × (new.pending ≡ old.pending)

-- Behind the end and behind a refusal the answer is the same again, and nothing is read.
abbrev pub ReadsAgain : {S A : Type 0} → Progress → ReaderState S → ReaderState S → Result (Option A) Cut → Type 0
ReadsAgain Open old new result = Unit {0}
ReadsAgain Ended old new result = (result ≡ Ok None) × ReadsNothing old new
ReadsAgain (Refused cut) old new result = (result ≡ Err cut) × ReadsNothing old new
