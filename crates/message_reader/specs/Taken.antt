-- What the messages that a reader gave are of all the bytes of its source.
use Rattle.std.specs.Prelude.{◌≡◌, ◌⊎◌, ◌+◌, ℕ, Bool, true, false, List, [], ◌∷◌}
use Rattle.std.specs.Prelude.{◌++◌, length, Option, None, Some, IfSome, option_map}
use Rattle.log_messages.specs.Messages.{IsLine, joined}
use Rattle.line_cut.specs.Length.{BeginsTooLong}
use Rattle.line_cut.specs.declared.cut.Cut.{Cut}
use Rattle.line_cut.specs.declared.cut.Cut.TheVariants.{ReadFault, LineTooLong, TooManyLines, OutOfMemory}
use Rattle.line_cut.specs.declared.cut.Progress.TheVariants.{Open}
use Rattle.line_cut.specs.declared.cutter.TheConstants.{MAX_LINE_LEN}
use Rattle.message_reader.specs.declared.reader.TheConstants.{MAX_MESSAGES}
use Rattle.message_reader.specs.Reading.{IsNewReader, ReadMessage, ReadToEnd, ReaderStays, ReaderState, RefusedToRead, left_of}
use Rattle.message_reader.specs.Versions.{AreWholeLines, IsHead, MessagesOf, line_count}

-- These messages, each with its newline, are the first ones of the bytes, and this is left: what follows has the other
-- messages, and so have some whole lines of it.
pub record AreFirst (version : ℕ) (bytes : List ℕ) (taken : List (List ℕ)) (rest : List ℕ) : Type 0 where
  pub parts : bytes ≡ joined taken ++ rest
  pub others :
      (messages : List (List ℕ)) (ended : Bool) → MessagesOf version rest messages ended
      → MessagesOf version bytes (taken ++ messages) ended
  pub of_lines :
      (front : List ℕ) (messages : List (List ℕ)) (ended : Bool) → AreWholeLines front rest
      → MessagesOf version front messages ended
      → MessagesOf version (joined taken ++ front) (taken ++ messages) ended

-- the same where the source tells its bytes
abbrev pub ToldFirst : ℕ → Option (List ℕ) → List (List ℕ) → Option (List ℕ) → Type 0
ToldFirst version None taken rest = Unit {0}
ToldFirst version (Some bytes) taken None = ⊥
ToldFirst version (Some bytes) taken (Some rest) = AreFirst version bytes taken rest

-- the last message has no stamp
abbrev pub LastIsNoHead : ℕ → List (List ℕ) → Type 0
LastIsNoHead version messages =
    (front : List (List ℕ)) (last : List ℕ) → messages ≡ front ++ last ∷ [] → ¬ IsHead version last

-- how many lines the messages have
abbrev pub lines_count : List (List ℕ) → ℕ
lines_count [] = 0
lines_count (message ∷ messages) = line_count message + lines_count messages

-- A reader for this version gave these messages of a source that told these bytes, each with its newline.
pub record HasRead {S : Type 0} (left : S → Option (List ℕ)) (version : ℕ) (bytes : Option (List ℕ))
    (taken : List (List ℕ)) (r : ReaderState S) : Type 0 where
  pub version_is : r.version ≡ version
  pub given : r.given ≡ length taken
  pub lines : r.lines ≡ lines_count taken
  pub told : ToldFirst version bytes taken (left_of left r)
  pub alone : r.looked ≡ false → LastIsNoHead version taken

-- a new reader gave nothing yet
abbrev pub ReadingBegins : {S : Type 0} → (S → Option (List ℕ)) → Type 0
ReadingBegins {S} left =
    (version : ℕ) (source : S) (r : ReaderState S) → IsNewReader version source r
    → HasRead left version (left source) [] r

-- a message with its newline is one more
abbrev pub ReadingGoesOn : {S : Type 0} → (S → Option (List ℕ)) → (S → Option (List ℕ)) → (S → ℕ) → Type 0
ReadingGoesOn {S} left name faults =
    (version : ℕ) (bytes : Option (List ℕ)) (taken : List (List ℕ)) (old new : ReaderState S)
    → HasRead left version bytes taken old → ReaderStays name faults old new → ReadMessage left true old new
    → HasRead left version bytes (taken ++ new.message ∷ []) new

-- with a message without its newline, and at the end, those that were given are all
abbrev pub ReadingEnds : {S : Type 0} → (S → Option (List ℕ)) → Type 0
ReadingEnds {S} left =
    (version : ℕ) (bytes : Option (List ℕ)) (taken : List (List ℕ)) (old new : ReaderState S)
    → HasRead left version bytes taken old
    → (ReadMessage left false old new → IfSome bytes (λ b. MessagesOf version b (taken ++ new.message ∷ []) false))
    × (ReadToEnd left old new → old.progress ≡ Open → IfSome bytes (λ b. MessagesOf version b taken true))

-- they are the first ones of the messages of the bytes
abbrev pub IsFrontOf : ℕ → List (List ℕ) → List ℕ → Type 0
IsFrontOf version taken bytes =
    (messages : List (List ℕ)) (ended : Bool) → MessagesOf version bytes messages ended
    → (more : List (List ℕ)) × (messages ≡ taken ++ more)

-- those that were given are the first ones of all, at each moment
abbrev pub ReadingIsFront : {S : Type 0} → (S → Option (List ℕ)) → Type 0
ReadingIsFront {S} left =
    (version : ℕ) (bytes : Option (List ℕ)) (taken : List (List ℕ)) (r : ReaderState S)
    → HasRead left version bytes taken r → IfSome bytes (IsFrontOf version taken)

-- The bytes taken from the source are some whole lines and the front of a line. The messages are those of the whole lines,
-- without the last one where it has a stamp.
pub record IsReadShort (version : ℕ) (bytes : List ℕ) (taken : List (List ℕ)) (behind : Option (List ℕ)) : Type 0 where
  pub whole : List ℕ
  pub part : List ℕ
  pub splits : Some bytes ≡ option_map (λ rest. (whole ++ part) ++ rest) behind
  pub are_lines : AreWholeLines whole (whole ++ part)
  pub no_newline : IsLine part
  pub messages :
      (MessagesOf version whole taken true × LastIsNoHead version taken)
      ⊎ ((last : List ℕ) × MessagesOf version whole (taken ++ last ∷ []) true × IsHead version last)

-- they are the messages of all that is before a line above the limit
abbrev pub IsBeforeLong : ℕ → List (List ℕ) → List ℕ → Type 0
IsBeforeLong version taken bytes =
    MessagesOf version (joined taken) taken true
    × ((rest : List ℕ) × (bytes ≡ joined taken ++ rest) × BeginsTooLong MAX_LINE_LEN rest)

-- What was given before a refusal: behind a read that failed, the messages of the lines that ended in the bytes taken, as
-- above; before a line above the limit, those of the lines before it; at one message too many, as many as the limit.
abbrev pub GivenBefore : {S : Type 0} → (S → Option (List ℕ)) → ℕ → Option (List ℕ) → List (List ℕ) → ReaderState S → Cut → Type 0
GivenBefore left version bytes taken new ReadFault = IfSome bytes (λ b. IsReadShort version b taken (left new.source))
GivenBefore left version bytes taken new (LineTooLong line) =
    (line ≡ lines_count taken + 1) × IfSome bytes (IsBeforeLong version taken)
GivenBefore left version bytes taken new TooManyLines = length taken ≡ MAX_MESSAGES
GivenBefore left version bytes taken new OutOfMemory = ⊥

abbrev pub ReadingBeforeRefusal : {S : Type 0} → (S → Option (List ℕ)) → (S → ℕ) → Type 0
ReadingBeforeRefusal {S} left faults =
    (version : ℕ) (bytes : Option (List ℕ)) (taken : List (List ℕ)) (old new : ReaderState S) (cut : Cut)
    → HasRead left version bytes taken old → RefusedToRead left faults old new cut → old.progress ≡ Open
    → GivenBefore left version bytes taken new cut
