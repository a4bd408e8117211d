-- The bytes of records, and what does not fit in an archive.
use Rattle.std.specs.Prelude.{ℕ, ◌+◌, List, [], ◌∷◌, length, drop, ◌≡◌, ◌⊎◌, ◌<◌, ◌++◌, min}
use Rattle.record_format.specs.Lists.{texts_payload}
use Rattle.disk_journal.specs.declared.record.TheConstants.{FRONT_LEN}
use Rattle.segment_format.specs.Layout.{segment_bytes}
use Rattle.archive_meaning.specs.declared.entry.SegmentEntry.{SegmentEntry}
use Rattle.archive_meaning.specs.declared.entry.JournalEntry.{JournalEntry}
use Rattle.archive_meaning.specs.Spelled.{types_of, record_of, end_of, words_named}
use Rattle.ingest_meaning.specs.WordsIn.{words_of}
use Rattle.disk_journal.specs.Record.{Saved, frame_of}
use Rattle.archive_meaning.specs.declared.entry.JournalEntry.TheVariants.{Files}
use Rattle.record_format.specs.declared.header.Header.{Header}
use Rattle.row_codec.specs.declared.namer.Which.{Which}
use Rattle.row_codec.specs.declared.namer.Which.TheVariants.{Types, Words}
use Rattle.row_codec.specs.Means.{AreCanonical}
use Rattle.ingest_meaning.specs.Parts.{IsCut, IsOpen, part_in}

-- the bytes of a record of texts; none where there are no texts
abbrev pub texts_need : ℕ → List (List ℕ) → ℕ
texts_need first [] = 0
texts_need first (t ∷ ts) = FRONT_LEN + length (texts_payload first (t ∷ ts))

-- the bytes of a segment's record, by the numbers of the words that it lists
abbrev pub record_need : SegmentEntry → List ℕ → ℕ
record_need s numbers = FRONT_LEN + length (segment_bytes s.file s.first s.last s.ended s.rows numbers)

-- the bytes of the records of a segment and of all texts of two books that these entries do not have
abbrev pub needed_behind : SegmentEntry → List ℕ → List JournalEntry → List (List ℕ) → List (List ℕ) → ℕ
needed_behind s numbers es types words =
    texts_need (length (types_of es)) (drop (length (types_of es)) types)
    + (texts_need (length (words_of es)) (drop (length (words_of es)) words) + record_need s numbers)

abbrev pub files_record : List (List ℕ) → Saved
files_record names = record_of [] (Files names)

-- how many bytes it takes behind the journal's end
abbrev pub files_size : List (List ℕ) → ℕ
files_size names = length (frame_of (files_record names))

-- The next segment of a file, behind these messages of it, did not fit: the archive ended behind some entries of a journal, and
-- goes past its limit of length with the record of the segment and those of the texts of both books that these entries do not
-- have. `was` holds of the entries, `has` of all texts that a book had then, and `follow` of the file's messages up to those of
-- the segment. The segment is the next whole part of them; or it is less, the rest, and then `last` holds of these messages.
pub record HadNoRoom (h : Header) (limit version file : ℕ) (was : List JournalEntry → Type 0)
    (has : List JournalEntry → Which → List (List ℕ) → Type 0) (follow last : List (List ℕ) → Type 0)
    (sealed : List (List ℕ)) (end need : ℕ) : Type 0 where
  -- the archive's end
  pub front : List JournalEntry
  pub was_so : was front
  pub ends : end ≡ end_of h front
  pub past : h.length_limit < end + need
  -- all texts of the two books
  pub types : List (List ℕ)
  pub words : List (List ℕ)
  pub has_types : has front Types types
  pub has_words : has front Words words
  -- the segment: its rows are the encodings of its messages by these texts, and it is cut behind them, or is the rest
  pub segment : SegmentEntry
  pub numbers : List ℕ
  pub messages : List (List ℕ)
  pub file_is : segment.file ≡ file
  pub next : segment.first ≡ length sealed
  pub follows : follow (sealed ++ messages)
  pub cut : IsCut limit (part_in segment messages) ⊎ (IsOpen limit (part_in segment messages) × last (sealed ++ messages))
  pub canonical : AreCanonical version segment.rows types words messages
  pub numbers_are : numbers ≡ words_named types segment.rows
  -- the bytes, or the greatest number where they are more
  pub needs : need ≡ min (needed_behind segment numbers front types words) 18446744073709551615
