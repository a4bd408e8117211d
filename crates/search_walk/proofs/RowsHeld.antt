-- The messages of segments by all words at once, before it is said where the words stand.
use Rattle.std.proofs.Common.{◌≡◌, ℕ, ◌+◌, ◌≤◌, List, [], ◌∷◌, ◌++◌, length, Some, All}
use Rattle.std.specs.Prelude.{slice_get}
use Rattle.std.proofs.lemmas.List.Elements.{All-head, All-tail}
use Rattle.record_format.specs.declared.header.Header.{Header}
use Rattle.column_store.specs.declared.row.Row.{Row}
use Rattle.row_codec.specs.Means.{AreCanonical}
use Rattle.segment_format.specs.Layout.{head_of}
use Rattle.segment_pages.specs.Paged.{HoldsSegment}
use Rattle.archive_meaning.specs.declared.TheConstants.{MAX_MESSAGES}
use Rattle.archive_meaning.specs.declared.entry.JournalEntry.{JournalEntry}
use Rattle.archive_meaning.specs.Held.{Held}
use Rattle.subquery_filter.specs.Laws.{words_of}
use Rattle.archive_open.specs.declared.files.FileEntry.{FileEntry}
use Rattle.archive_open.specs.declared.segments.SegmentPlace.{SegmentPlace}
use Rattle.archive_places.specs.Heads.{HasHeadAt}
use Rattle.archive_places.specs.Words.{words_places_of}
use Rattle.word_places.specs.Kept.{KeptTypes}
use Rattle.printed_lines.specs.Lines.{Placed, numbered}
use Rattle.search_walk.specs.Held.{HaveMessages, IsTold, Named}

-- what the numbers of rows stand for, and the archive's version
pub record Texts : Type 0 where
  pub version : ℕ
  pub types : List (List ℕ)
  pub words : List (List ℕ)

abbrev pub texts_of : Header → Held → Texts
texts_of h held = record { version = h.version; types = held.types; words = held.words }

-- the names of a journal whose bytes are told, of whose log types these are held
abbrev pub names_in : List ℕ → Header → List JournalEntry → Held → KeptTypes → Named
names_in bytes h es held kept = record { version = h.version; types = held.types; words = held.words; told = Some bytes; places = words_places_of es; kept = kept }

pub record HasRows (bytes : List ℕ) (n : Texts) (p : SegmentPlace) (messages : List (List ℕ)) : Type 0 where
  pub rows : List Row
  pub holds : HoldsSegment p.payload p.length p.head bytes rows
  pub are : AreCanonical n.version rows n.types n.words messages
  pub head : p.head ≡ head_of p.head.file p.head.first p.head.last p.head.ended rows (words_of n.types rows)
  pub most : p.head.first + length rows ≤ MAX_MESSAGES

abbrev pub HaveRows : List ℕ → Texts → List FileEntry → List SegmentPlace → List Placed → Type 0
HaveRows bytes n files [] all = all ≡ []
HaveRows bytes n files (p ∷ ps) all =
    (file : FileEntry) × (messages : List (List ℕ)) × (others : List Placed) × (slice_get files p.head.file ≡ Some file) × HasRows bytes n p messages
    × HaveRows bytes n files ps others × (all ≡ numbered file.name (p.head.first + 1) messages ++ others)

-- where the words and the heads stand
pub rows_told : (bytes : List ℕ) (h : Header) (es : List JournalEntry) (held : Held) (files : List FileEntry) (ps : List SegmentPlace) (all : List Placed) (kept : KeptTypes) → IsTold (names_in bytes h es held kept) → All (HasHeadAt bytes) ps
    → HaveRows bytes (texts_of h held) files ps all → HaveMessages bytes (names_in bytes h es held kept) files ps all
rows_told bytes h es held files [] all kept told stand have = have
rows_told bytes h es held files (p ∷ ps) all kept told stand have = (
  have.0,
  have.1,
  have.2,
  have.3,
  record {
    rows = have.4.rows;
    holds = have.4.holds;
    are = record { told = told; are = have.4.are };
    stands = All-head (HasHeadAt bytes) p ps stand;
    head = have.4.head;
    most = have.4.most;
  },
  rows_told bytes h es held files ps have.2 kept told (All-tail (HasHeadAt bytes) p ps stand) have.5,
  have.6,
)
