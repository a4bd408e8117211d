-- What an opened archive shows of its journal.
use Rattle.std.specs.Prelude.{◌≡◌, ◌⊎◌, ◌≤◌, ◌^◌, ℕ, ◌+◌, ◌-◌, ◌*◌, List, [], ◌∷◌}
use Rattle.std.specs.Prelude.{◌++◌, length, map, Option, Some, None, option_map, All}
use Rattle.std.specs.List.Sorted.{IsPermutation, IsNonDecreasingBy}
use Rattle.log_seams.specs.Disk.{Rests}
use Rattle.record_format.specs.declared.header.Header.{Header}
use Rattle.record_format.specs.Header.{IsHeader, header_bytes}
use Rattle.disk_journal.specs.Place.{HasClosedGate, HasWalked}
use Rattle.disk_journal.specs.State.{JournalState}
use Rattle.segment_format.specs.declared.head.Head.{Head}
use Rattle.segment_format.specs.Layout.{head_bytes, head_of}
use Rattle.archive_meaning.specs.declared.entry.SegmentEntry.{SegmentEntry}
use Rattle.archive_meaning.specs.declared.entry.JournalEntry.{JournalEntry}
use Rattle.archive_meaning.specs.declared.entry.JournalEntry.TheVariants.{Files, Types, Words, Segment}
use Rattle.archive_meaning.specs.Held.{File, Held, content_of}
use Rattle.archive_meaning.specs.Spelled.{end_of, front_of, record_of, types_in, types_of, words_named}
use Rattle.archive_meaning.specs.Stands.{HasHeader, IsFirstDamage, StandsFor}
use Rattle.archive_open.specs.declared.files.FileEntry.{FileEntry}
use Rattle.archive_open.specs.declared.segments.SegmentPlace.{SegmentPlace}
use Rattle.archive_open.specs.Kept.{Kept}

-- an opened archive: its header, texts, files and segments, the count of its records, and that of its bytes
pub record Shown : Type 0 where
  pub header : Header
  pub kept : Kept
  pub files : List FileEntry
  pub segments : List SegmentPlace
  pub entries : ℕ
  pub end : ℕ

-- the texts that are held, under a header
abbrev pub kept_of : Header → Held → Kept
kept_of h held = record {
  types = held.types;
  words = held.words;
  types_limit = h.types_limit;
  words_limit = h.words_limit;
  version = h.version;
}

-- a file, with the count of its messages in their place
abbrev pub counted : File → FileEntry
counted f = record { name = f.name; messages = length f.messages; whole = f.whole; ended = f.ended }

abbrev pub files_of : Held → List FileEntry
files_of held = map counted (content_of held)

-- the head of a segment, where the log types are these
abbrev pub head_in : List (List ℕ) → SegmentEntry → Head
head_in types s = head_of s.file s.first s.last s.ended s.rows (words_named types s.rows)

-- an entry as a segment whose gate is at a place
abbrev pub placed : ℕ → List (List ℕ) → JournalEntry → List SegmentPlace
placed at types (Files names) = []
placed at types (Types first texts) = []
placed at types (Words first texts) = []
placed at types (Segment s) = record {
  at = at;
  payload = at + 10;
  length = length (record_of types (Segment s)).payload;
  head = head_in types s;
} ∷ []

-- the segments among entries, the first of which has its gate at a place
abbrev pub places_from : ℕ → List (List ℕ) → List JournalEntry → List SegmentPlace
places_from at types [] = []
places_from at types (e ∷ es) =
    placed at types e
    ++ places_from (at + 10 + length (record_of types e).payload) (types ++ types_in e) es

abbrev pub places_of : List JournalEntry → List SegmentPlace
places_of es = places_from 32 [] es

-- by file, and then by first message
abbrev pub order_of : SegmentPlace → ℕ
order_of p = p.head.file * 2 ^ 64 + p.head.first

-- The archive is that of a journal with this header and these entries, which hold this.
pub record IsArchiveOf (a : Shown) (h : Header) (es : List JournalEntry) (held : Held) : Type 0 where
  pub header : a.header ≡ h
  pub kept : a.kept ≡ kept_of h held
  pub files : a.files ≡ files_of held
  pub segments : IsPermutation (places_of es) a.segments
  pub sorted : IsNonDecreasingBy order_of a.segments
  pub entries : a.entries ≡ length es
  pub end : a.end ≡ end_of h es

-- where the bytes are told and stand for a journal, the archive is that journal's
abbrev pub Opens : Option (List ℕ) → Shown → Type 0
Opens None a = Unit {0}
Opens (Some bytes) a = (h : Header) (es : List JournalEntry) (stood : StandsFor bytes h es) → IsArchiveOf a h es stood.legal.held

-- the bytes stand for no journal
abbrev pub StandsForNone : List ℕ → Type 0
StandsForNone bytes = (h : Header) (es : List JournalEntry) → ¬ StandsFor bytes h es

-- a walk past whole records comes to this gate
abbrev pub IsGate : ℕ → List ℕ → Type 0
IsGate at bytes = (h : Header) × (IsHeader h × ((n : ℕ) × HasWalked (header_bytes h) at n bytes))

-- a walk comes to this gate, which is closed, and the first damage is not behind it
pub record IsLastGate (at : ℕ) (bytes : List ℕ) : Type 0 where
  pub gate : IsGate at bytes
  pub closed : HasClosedGate at bytes
  pub behind : (first : ℕ) → IsFirstDamage bytes first → first ≤ at

-- where the bytes are told, the archive's last byte is such a gate
abbrev pub HasLastGate : Option (List ℕ) → Shown → Type 0
HasLastGate None a = Unit {0}
HasLastGate (Some bytes) a = IsLastGate (a.end - 1) bytes

-- The bytes stand for no journal. The place is a gate that is not before the first damage, or 0 where there is no header.
pub record IsRefused (at : ℕ) (bytes : List ℕ) : Type 0 where
  pub none : StandsForNone bytes
  pub behind : (first : ℕ) → IsFirstDamage bytes first → first ≤ at
  pub gate : ((at ≡ 0) × ¬ HasHeader bytes) ⊎ IsGate at bytes

-- where the bytes are told
abbrev pub RefusedAt : ℕ → Option (List ℕ) → Type 0
RefusedAt at None = Unit {0}
RefusedAt at (Some bytes) = IsRefused at bytes

-- ---- the journal, and the bytes that are read

-- the same journal, whose disk was only read
pub record Looks (old new : JournalState) : Type 0 where
  pub name : new.name ≡ old.name
  pub header : new.header ≡ old.header
  pub rests : Rests old.disk new.disk

-- where the columns of a segment begin that stands behind these entries, and where they end
abbrev pub columns_begin : Header → List JournalEntry → SegmentEntry → ℕ
columns_begin h before s = length (front_of h before) + 10 + length (head_bytes (head_in (types_of before) s))

abbrev pub columns_end : Header → List JournalEntry → SegmentEntry → ℕ
columns_end h before s = length (front_of h (before ++ Segment s ∷ []))

-- n bytes from a place on are none of the columns of a segment
abbrev pub Misses : Header → List JournalEntry → ℕ → ℕ → Type 0
Misses h es at n =
    (before after : List JournalEntry) (s : SegmentEntry) → es ≡ before ++ Segment s ∷ after
    → (at + n ≤ columns_begin h before s) ⊎ (columns_end h before s ≤ at)

-- each range that was read since has none of the columns
pub record ReadsAside (h : Header) (es : List JournalEntry) (old new : Option (List (ℕ × ℕ))) : Type 0 where
  pub more : List (ℕ × ℕ)
  pub added : new ≡ option_map (λ ranges. ranges ++ more) old
  pub aside : All (λ r. Misses h es r.0 r.1) more

-- where the bytes are told and stand for a journal, none of its columns are read
abbrev pub Spares : Option (List ℕ) → Option (List (ℕ × ℕ)) → Option (List (ℕ × ℕ)) → Type 0
Spares None old new = Unit {0}
Spares (Some bytes) old new = (h : Header) (es : List JournalEntry) → StandsFor bytes h es → ReadsAside h es old new
