-- What is said of a search by the journal that the disk's bytes stand for.
use Rattle.std.specs.Prelude.{◌≡◌, ◌⊎◌, ◌≤◌, ◌+◌, ℕ, List, ◌∷◌, ◌++◌, Option, Some, None, option_map, All}
use Rattle.std.specs.List.Sorted.{IsNonDecreasingBy, IsPermutation}
use Rattle.record_format.specs.declared.header.Header.{Header}
use Rattle.archive_meaning.specs.declared.entry.SegmentEntry.{SegmentEntry}
use Rattle.archive_meaning.specs.declared.entry.JournalEntry.{JournalEntry}
use Rattle.archive_meaning.specs.declared.entry.JournalEntry.TheVariants.{Segment}
use Rattle.archive_meaning.specs.Held.{Held}
use Rattle.archive_meaning.specs.Spelled.{types_of}
use Rattle.archive_meaning.specs.Stands.{StandsFor}
use Rattle.column_store.specs.declared.range.Range.{Range}
use Rattle.wild_match.specs.declared.pattern.Item.{Item}
use Rattle.query_plan.specs.Pieces.{wide_pieces}
use Rattle.barren_segments.specs.Barren.{IsBarren}
use Rattle.archive_open.specs.declared.segments.SegmentPlace.{SegmentPlace}
use Rattle.archive_open.specs.Shown.{columns_begin, columns_end, head_in, order_of, places_of}
use Rattle.search_meaning.specs.Scan.{Asked}

-- P holds of the journal that the bytes stand for, where they are told and stand for one
abbrev pub OfJournal : Option (List ℕ) → (Header → List JournalEntry → Held → Type 0) → Type 0
OfJournal None P = Unit {0}
OfJournal (Some bytes) P = (h : Header) (es : List JournalEntry) (stood : StandsFor bytes h es) → P h es stood.legal.held

-- these are a journal's segments, sorted by file and first message
pub record AreSegmentsOf (es : List JournalEntry) (ps : List SegmentPlace) : Type 0 where
  pub are : IsPermutation (places_of es) ps
  pub sorted : IsNonDecreasingBy order_of ps

-- n bytes from a place on are none of the columns of a barren segment
abbrev pub MissesBarren : Header → List JournalEntry → Held → Asked → ℕ → ℕ → Type 0
MissesBarren h es held q at n =
    (before after : List JournalEntry) (s : SegmentEntry) → es ≡ before ++ Segment s ∷ after
    → IsBarren (wide_pieces q.pattern) q.range held.types held.words (head_in (types_of before) s)
    → (at + n ≤ columns_begin h before s) ⊎ (columns_end h before s ≤ at)

-- each range that was read since is such
pub record ReadsNoBarren (h : Header) (es : List JournalEntry) (held : Held) (q : Asked)
    (old new : Option (List (ℕ × ℕ))) : Type 0 where
  pub more : List (ℕ × ℕ)
  pub added : new ≡ option_map (λ ranges. ranges ++ more) old
  pub each : All (λ r. MissesBarren h es held q r.0 r.1) more

-- what is asked for
abbrev pub asked : List Item → Range → Asked
asked pattern range = record { pattern = pattern; range = range }
