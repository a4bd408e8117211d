-- The records of a turn: texts that are not saved, and a segment.
use Rattle.std.specs.Prelude.{◌≡◌, ◌≢◌, ℕ, ◌+◌, ◌<◌, ◌≤◌, ◌^◌, List, [], ◌∷◌, ◌++◌, length, drop, All}
use Rattle.std.specs.List.Sorted.{IsStrictlyIncreasing}
use mathlib.Core.List.{IsPrefix}
use Rattle.turn_lock.specs.Words.{seen}
use Rattle.record_format.specs.declared.header.Header.{Header}
use Rattle.record_format.specs.declared.kinds.TheConstants.{SEGMENT_KIND}
use Rattle.disk_journal.specs.Record.{IsFrame, saved_of}
use Rattle.segment_format.specs.Layout.{segment_bytes}
use Rattle.archive_meaning.specs.declared.entry.SegmentEntry.{SegmentEntry}
use Rattle.archive_meaning.specs.declared.entry.JournalEntry.{JournalEntry}
use Rattle.archive_meaning.specs.declared.entry.JournalEntry.TheVariants.{Files, Types, Words, Segment}
use Rattle.disk_seal.specs.declared.draft.Draft.{Draft}
use Rattle.disk_seal.specs.declared.pieces.Piece.{Piece}
use Rattle.disk_seal.specs.Told.{IfTold}
use Rattle.ingest_meaning.specs.Room.{record_need, texts_need}
use Rattle.disk_seal.specs.View.{StoreState, tells, journal_of}
use Rattle.disk_seal.specs.May.{MayAdd}
use Rattle.disk_seal.specs.Adding.{front_of}
use Rattle.disk_seal.specs.Pieces.{CanFollow, added_by, size_of}
use Rattle.disk_seal.specs.Sealing.{told_as}
use Rattle.disk_seal.specs.Draft.{MayFollow}

-- the draft as an entry
abbrev pub segment_of : Draft → SegmentEntry
segment_of d = record { file = d.file; first = d.first; last = d.last; ended = d.ended; rows = d.columns.rows }

-- its numbers of words are sorted, each once, and can be counted
pub record HasNumbers (d : Draft) : Type 0 where
  pub rise : IsStrictlyIncreasing d.words
  pub count : length d.words < 2 ^ 32

-- the framed record of a draft
pub record IsSealed (d : Draft) (p : Piece) : Type 0 where
  pub framed : IsFrame p.text
  pub saved : saved_of p.text ≡ record {
    kind = SEGMENT_KIND;
    payload = segment_bytes d.file d.first d.last d.ended d.columns.rows d.words;
  }
  pub types_is : p.types ≡ 0
  pub words_is : p.words ≡ 0

-- no segment of the file is among the entries
abbrev pub LeavesFile : ℕ → List JournalEntry → Type 0
LeavesFile file [] = Unit {0}
LeavesFile file (Files names ∷ es) = LeavesFile file es
LeavesFile file (Types first texts ∷ es) = LeavesFile file es
LeavesFile file (Words first texts ∷ es) = LeavesFile file es
LeavesFile file (Segment s ∷ es) = (s.file ≢ file) × LeavesFile file es

-- the entries are some first ones, behind which the segment may follow, and others that leave its file alone
pub record IsBehind (h : Header) (es : List JournalEntry) (s : SegmentEntry) (types words : List (List ℕ)) (numbers : List ℕ)
    : Type 0 where
  pub front : List JournalEntry
  pub rest : List JournalEntry
  pub is : es ≡ front ++ rest
  pub leaves : LeavesFile s.file rest
  pub may : MayFollow h front types words s numbers

-- the draft may follow what the store has, by texts that the store's passes have seen
pub record IsNextOf (d : Draft) (s : StoreState) : Type 0 where
  pub types : List (List ℕ)
  pub words : List (List ℕ)
  pub types_front : IsPrefix types (seen s.types)
  pub words_front : IsPrefix words (seen s.words)
  pub behind : IfTold (tells s) (IsBehind s.header (journal_of s) (segment_of d) types words d.words)

-- the entries of log types from a number on: one, or none where there are no texts
abbrev pub types_from : ℕ → List (List ℕ) → List JournalEntry
types_from first [] = []
types_from first (t ∷ ts) = Types first (t ∷ ts) ∷ []

-- those of words
abbrev pub words_from : ℕ → List (List ℕ) → List JournalEntry
words_from first [] = []
words_from first (t ∷ ts) = Words first (t ∷ ts) ∷ []

-- what goes along with a draft: all log types that are not saved, then all words that are not saved, then the segment
abbrev pub entries_with : Draft → StoreState → List JournalEntry
entries_with d s =
    types_from s.types_saved (drop s.types_saved (seen s.types))
    ++ (words_from s.words_saved (drop s.words_saved (seen s.words)) ++ Segment (segment_of d) ∷ [])

-- texts, and then the segment, which is the last
abbrev pub IsTextsThen : SegmentEntry → List JournalEntry → Type 0
IsTextsThen s [] = ⊥
IsTextsThen s (Files names ∷ es) = ⊥
IsTextsThen s (Types first texts ∷ es) = IsTextsThen s es
IsTextsThen s (Words first texts ∷ es) = IsTextsThen s es
IsTextsThen s (Segment t ∷ es) = (t ≡ s) × (es ≡ [])

-- the records may be added one after the other by the pass of the draft's file; they are those of all unsaved texts and the draft
pub record ArePlanned (d : Draft) (ps : List Piece) (s : StoreState) : Type 0 where
  pub can : CanFollow ps (front_of s)
  pub may : All (MayAdd d.file) (told_as s (added_by ps))
  pub all : IfTold (tells s) (added_by ps ≡ entries_with d s)

-- where there is room for them
abbrev pub HasRoom : List Piece → StoreState → Type 0
HasRoom ps s = s.place + 1 + size_of ps ≤ s.header.length_limit

-- the bytes of a draft's record
abbrev pub segment_need : Draft → ℕ
segment_need d = record_need (segment_of d) d.words

-- the bytes of the records of a draft and of the texts of two books from these numbers on
abbrev pub all_need : Draft → ℕ → List (List ℕ) → ℕ → List (List ℕ) → ℕ
all_need d types_saved types words_saved words =
    texts_need types_saved (drop types_saved types) + (texts_need words_saved (drop words_saved words) + segment_need d)

-- those that a store needs for a draft
abbrev pub needed : Draft → StoreState → ℕ
needed d s = all_need d s.types_saved (seen s.types) s.words_saved (seen s.words)
