-- When the entries of a journal make a legal archive: each one adds to what those before it hold.
use Rattle.std.specs.Prelude.{◌≡◌, ℕ, ◌+◌, ◌^◌, ◌<◌, ◌≤◌, true, false, List, [], ◌∷◌, ◌++◌, length, All}
use Rattle.logtype_text.specs.Fair.{IsFairType, IsFairWord}
use Rattle.record_format.specs.declared.header.Header.{Header}
use Rattle.column_store.specs.Row.{IsRow, variable_count}
use Rattle.row_codec.specs.Means.{AreCanonical}
use Rattle.row_codec.specs.Messages.{IsMessage}
use Rattle.plain_list.specs.Texts.{AreDistinct}
use Rattle.archive_meaning.specs.declared.TheConstants.{MAX_NAMES, MAX_NAME_LEN, MAX_FILES, MAX_ROWS, MAX_MESSAGES}
use Rattle.archive_meaning.specs.declared.entry.SegmentEntry.{SegmentEntry}
use Rattle.archive_meaning.specs.declared.entry.JournalEntry.{JournalEntry}
use Rattle.archive_meaning.specs.declared.entry.JournalEntry.TheVariants.{Files, Types, Words, Segment}
use Rattle.archive_meaning.specs.Held.{Held, Piece, messages_of, is_whole, last_is_open}

-- the texts of a dictionary: distinct, each one fair, and not above the limit
pub record IsBook (IsFair : List ℕ → Type 0) (limit : ℕ) (texts : List (List ℕ)) : Type 0 where
  pub distinct : AreDistinct texts
  pub fair : All IsFair texts
  pub most : length texts ≤ limit

-- one or more texts, numbered on from those of before, with which the dictionary still is one
pub record AddsTexts (IsFair : List ℕ → Type 0) (limit : ℕ) (old : List (List ℕ)) (first : ℕ) (texts : List (List ℕ))
    : Type 0 where
  pub some : 0 < length texts
  pub behind : first ≡ length old
  pub book : IsBook IsFair limit (old ++ texts)

-- The segment goes on with its file behind what is held, and its rows are the encodings of these messages by the
-- texts that are held. Only a last segment may be empty. A whole file whose last line had no newline has a last line.
pub record AddsSegment (version : ℕ) (held : Held) (s : SegmentEntry) (messages : List (List ℕ)) : Type 0 where
  pub first : s.first ≡ length (messages_of s.file held.pieces)
  pub goes_on : is_whole s.file held.pieces ≡ false
  pub most : s.first + length s.rows ≤ MAX_MESSAGES
  pub rows : length s.rows ≤ MAX_ROWS
  pub variables : variable_count s.rows < 2 ^ 32
  pub fit : All IsRow s.rows
  pub some : s.last ≡ false → 0 < length s.rows
  pub ended : s.ended ≡ true → s.last ≡ true
  pub end : s.last ≡ true → s.ended ≡ false → last_is_open (messages_of s.file held.pieces ++ messages) ≡ true
  pub canonical : AreCanonical version s.rows held.types held.words messages
  pub each : All (IsMessage version) messages

-- the messages of a segment
abbrev pub piece_of : SegmentEntry → List (List ℕ) → Piece
piece_of s messages = record { file = s.file; messages = messages; last = s.last; ended = s.ended }

-- an archive with this header that holds this may go on with the entry, and then holds more
abbrev pub Accepts : Header → Held → JournalEntry → Held → Type 0
Accepts h held (Files names) more = more ≡ record held { names = held.names ++ names }
Accepts h held (Types first texts) more =
    AddsTexts IsFairType h.types_limit held.types first texts × (more ≡ record held { types = held.types ++ texts })
Accepts h held (Words first texts) more =
    AddsTexts IsFairWord h.words_limit held.words first texts × (more ≡ record held { words = held.words ++ texts })
Accepts h held (Segment s) more =
    (messages : List (List ℕ)) × AddsSegment h.version held s messages
    × (more ≡ record held { pieces = held.pieces ++ piece_of s messages ∷ [] })

-- entry by entry
abbrev pub Run : Header → Held → List JournalEntry → Held → Type 0
Run h held [] more = more ≡ held
Run h held (e ∷ es) more = (mid : Held) × Accepts h held e mid × Run h mid es more

-- names are neither too many nor too long, and each segment is of a file that has a name; `count` names stand before
abbrev pub AreNamed : ℕ → List JournalEntry → Type 0
AreNamed count [] = Unit {0}
AreNamed count (Files names ∷ es) =
    (1 ≤ length names) × (length names ≤ MAX_NAMES) × All (λ name. length name ≤ MAX_NAME_LEN) names
    × (count + length names ≤ MAX_FILES) × AreNamed (count + length names) es
AreNamed count (Types first texts ∷ es) = AreNamed count es
AreNamed count (Words first texts ∷ es) = AreNamed count es
AreNamed count (Segment s ∷ es) = (s.file < count) × AreNamed count es
