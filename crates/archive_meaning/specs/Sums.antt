-- What a judge keeps of a journal in place of its entries, and when it admits one more.
use Rattle.std.specs.Prelude.{◌≡◌, ℕ, ◌+◌, ◌^◌, ◌<◌, ◌≤◌, Bool, true, false, List, [], ◌∷◌}
use Rattle.std.specs.Prelude.{◌++◌, length, All, slice_index_or, slice_set, replicate}
use Rattle.logtype_text.specs.Fair.{IsFairType, IsFairWord}
use Rattle.record_format.specs.declared.header.Header.{Header}
use Rattle.record_format.specs.Header.{IsHeader}
use Rattle.column_store.specs.Row.{IsRow, variable_count}
use Rattle.row_codec.specs.Means.{AreCanonical}
use Rattle.row_codec.specs.Messages.{IsMessage}
use Rattle.archive_meaning.specs.declared.TheConstants.{MAX_NAMES, MAX_NAME_LEN, MAX_FILES, MAX_ROWS, MAX_MESSAGES}
use Rattle.archive_meaning.specs.declared.entry.SegmentEntry.{SegmentEntry}
use Rattle.archive_meaning.specs.declared.entry.JournalEntry.{JournalEntry}
use Rattle.archive_meaning.specs.declared.entry.JournalEntry.TheVariants.{Files, Types, Words, Segment}
use Rattle.archive_meaning.specs.declared.sums.FileSum.{FileSum}
use Rattle.archive_meaning.specs.Held.{Held, Piece, nothing_held, messages_of, is_whole, last_is_open}
use Rattle.archive_meaning.specs.Legal.{AddsTexts, AreNamed, Run}
use Rattle.archive_meaning.specs.Spelled.{end_of, record_of}
use Rattle.archive_meaning.specs.Stands.{IsLegal}

abbrev pub no_messages : FileSum
no_messages = record { messages = 0; whole = false; open_end = false }

-- the header, the texts of both dictionaries, the sum of each file, and the count of bytes with the closed gate
pub record Sums : Type 0 where
  pub header : Header
  pub types : List (List ℕ)
  pub words : List (List ℕ)
  pub files : List FileSum
  pub end : ℕ

abbrev pub sum_of : ℕ → List Piece → FileSum
sum_of file pieces = record {
  messages = length (messages_of file pieces);
  whole = is_whole file pieces;
  open_end = last_is_open (messages_of file pieces);
}

-- the sums of the files from a number on
abbrev pub sums_from : ℕ → List (List ℕ) → List Piece → List FileSum
sums_from file [] pieces = []
sums_from file (name ∷ names) pieces = sum_of file pieces ∷ sums_from (file + 1) names pieces

-- the sums are those of these entries, which are legal
pub record AreSums (sums : Sums) (es : List JournalEntry) : Type 0 where
  pub header : IsHeader sums.header
  pub held : Held
  pub run : Run sums.header nothing_held es held
  pub named : AreNamed 0 es
  pub types : sums.types ≡ held.types
  pub words : sums.words ≡ held.words
  pub files : sums.files ≡ sums_from 0 held.names held.pieces
  pub end : sums.end ≡ end_of sums.header es
  pub short : sums.end ≤ sums.header.length_limit

-- whether the last message may be a last line without newline, where `before` tells it of the messages before these
abbrev pub open_after : Bool → List (List ℕ) → Bool
open_after before [] = before
open_after before (m ∷ messages) = last_is_open (m ∷ messages)

-- names are neither too many nor too long
pub record AddsNames (count : ℕ) (names : List (List ℕ)) : Type 0 where
  pub some : 1 ≤ length names
  pub few : length names ≤ MAX_NAMES
  pub short : All (λ name. length name ≤ MAX_NAME_LEN) names
  pub all : count + length names ≤ MAX_FILES

-- a segment goes on with a file of this sum
pub record AddsRows (version : ℕ) (sum : FileSum) (types words : List (List ℕ)) (s : SegmentEntry) (messages : List (List ℕ))
    : Type 0 where
  pub first : s.first ≡ sum.messages
  pub goes_on : sum.whole ≡ false
  pub most : s.first + length s.rows ≤ MAX_MESSAGES
  pub rows : length s.rows ≤ MAX_ROWS
  pub variables : variable_count s.rows < 2 ^ 32
  pub fit : All IsRow s.rows
  pub some : s.last ≡ false → 0 < length s.rows
  pub ended : s.ended ≡ true → s.last ≡ true
  pub end : s.last ≡ true → s.ended ≡ false → open_after sum.open_end messages ≡ true
  pub canonical : AreCanonical version s.rows types words messages
  pub each : All (IsMessage version) messages

-- the file's sum with a segment of these messages
abbrev pub sum_with : FileSum → SegmentEntry → List (List ℕ) → FileSum
sum_with sum s messages = record {
  messages = sum.messages + length s.rows;
  whole = s.last;
  open_end = open_after sum.open_end messages;
}

-- the bytes of an archive with one entry more
abbrev pub end_with : Sums → JournalEntry → ℕ
end_with sums e = sums.end + 10 + length (record_of sums.types e).payload

-- the entry may follow, and then the sums are these
abbrev pub AddsEntry : Sums → JournalEntry → Sums → Type 0
AddsEntry sums (Files names) more =
    AddsNames (length sums.files) names
    × (more ≡ record sums { files = sums.files ++ replicate (length names) no_messages; end = end_with sums (Files names) })
AddsEntry sums (Types first texts) more =
    AddsTexts IsFairType sums.header.types_limit sums.types first texts
    × (more ≡ record sums { types = sums.types ++ texts; end = end_with sums (Types first texts) })
AddsEntry sums (Words first texts) more =
    AddsTexts IsFairWord sums.header.words_limit sums.words first texts
    × (more ≡ record sums { words = sums.words ++ texts; end = end_with sums (Words first texts) })
AddsEntry sums (Segment s) more =
    (s.file < length sums.files)
    × ((messages : List (List ℕ))
    × AddsRows sums.header.version (slice_index_or sums.files s.file no_messages) sums.types sums.words s messages
    × (more ≡ record sums {
      files = slice_set sums.files s.file (sum_with (slice_index_or sums.files s.file no_messages) s messages);
      end = end_with sums (Segment s);
    }))

-- and the archive stays within its limit of length
abbrev pub Admits : Sums → JournalEntry → Sums → Type 0
Admits sums e more = AddsEntry sums e more × (more.end ≤ sums.header.length_limit)

-- a judge that admits has the sums of the entries with this one
abbrev pub AdmittedAreSums : Type 0
AdmittedAreSums =
    (sums more : Sums) (es : List JournalEntry) (e : JournalEntry) → AreSums sums es → Admits sums e more
    → AreSums more (es ++ e ∷ [])

-- and what may legally follow is admitted
abbrev pub LegalIsAdmitted : Type 0
LegalIsAdmitted =
    (sums : Sums) (es : List JournalEntry) (e : JournalEntry) → AreSums sums es → IsLegal sums.header (es ++ e ∷ [])
    → (more : Sums) × Admits sums e more
