-- What a count of an archive's messages leaves in a table.
use Rattle.std.specs.Prelude.{◌≡◌, ◌<◌, ◌+◌, ◌^◌, ℕ, List, length, Option}
use Rattle.record_format.specs.declared.header.Header.{Header}
use Rattle.archive_meaning.specs.declared.entry.JournalEntry.{JournalEntry}
use Rattle.archive_meaning.specs.Held.{Held, content_of}
use Rattle.archive_open.specs.declared.segments.SegmentPlace.{SegmentPlace}
use Rattle.column_store.specs.declared.row.Row.{Row}
use Rattle.row_codec.specs.Means.{AreCanonical}
use Rattle.word_places.specs.Held.{HeldNames, kept_of}
use Rattle.word_places.specs.Kept.{AreKeptOf}
use Rattle.word_places.specs.Places.{SomeWords}
use Rattle.archive_places.specs.declared.places.Places.{Places}
use Rattle.printed_lines.specs.Lines.{Placed}
use Rattle.search_meaning.specs.Scan.{AreFound, Asked, all_placed}
use Rattle.search_meaning.specs.Opened.{AreOpened}
use Rattle.search_meaning.specs.Journal.{AreSegmentsOf}
use Rattle.group_count.specs.declared.archive_counting.Gone.{Gone}
use Rattle.group_count.specs.declared.counts.Counts.{Counts}
use Rattle.search_meaning.specs.declared.report.GroupReport.{GroupReport}
use Rattle.search_meaning.specs.Grouped.{AreExpanded, messages_of}
use Rattle.group_count.specs.StepsCounted.{Adds, Sofar}

-- the counts of the work
abbrev pub reported : {T : Type 0} → Counts T → Gone → GroupReport
reported counts gone =
    record { matched = counts.matched; expanded = counts.expanded; opened = gone.opened; segments = gone.segments }

-- the log types at these places are held, but for such as were left out
pub record HoldsTypes (told : Option (List ℕ)) (a : Places) (held : HeldNames) : Type 0 where
  pub places : held.type_places ≡ a.types
  pub kept : SomeWords told a.types (λ texts. AreKeptOf texts (kept_of held))

-- All was counted: the rows that went into the table are the encodings of the messages that are found.
pub record HasCounted {T : Type 0} (counted : T → ℕ → List Row → Type 0) (h : Header) (es : List JournalEntry) (held : Held)
    (q : Asked) (gone : Gone) (a b : Sofar T) (opened opened_new : ℕ) : Type 0 where
  pub found : List Placed
  pub expansions : List Placed
  pub rows : List Row
  pub all : List SegmentPlace
  pub segments : List SegmentPlace
  pub are_all : AreSegmentsOf es all
  pub are_found : AreFound h.version q (all_placed (content_of held)) found
  pub are_expanded : AreExpanded h.version q (all_placed (content_of held)) expansions
  pub are_opened : AreOpened held.types held.words q all segments
  pub few : length (all_placed (content_of held)) < 2 ^ 64
  pub are : AreCanonical h.version rows held.types held.words (messages_of found)
  pub adds : Adds counted rows (length expansions) a b
  pub opens : opened_new ≡ opened + length segments
  pub opened_count : gone.opened ≡ length segments
  pub segment_count : gone.segments ≡ length all
