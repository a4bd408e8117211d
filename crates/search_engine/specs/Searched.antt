-- What a search of an archive has done, said of the journal that the disk's bytes stand for.
use Rattle.std.specs.Prelude.{◌≡◌, ◌≤◌, ◌+◌, ℕ, List, length, Option}
use Rattle.record_format.specs.declared.header.Header.{Header}
use Rattle.archive_meaning.specs.declared.entry.JournalEntry.{JournalEntry}
use Rattle.archive_meaning.specs.Held.{Held, content_of}
use Rattle.archive_open.specs.declared.segments.SegmentPlace.{SegmentPlace}
use Rattle.search_meaning.specs.declared.report.Report.{Report}
use Rattle.printed_lines.specs.Lines.{Placed, lines_of}
use Rattle.search_meaning.specs.Scan.{AreFound, AreTried, Asked, all_placed}
use Rattle.sink_pieces.specs.Output.{Grew, GrewByFront}
use Rattle.search_meaning.specs.Opened.{AreOpened}
use Rattle.search_meaning.specs.Journal.{AreSegmentsOf}

-- All was searched: what is printed are the lines of the messages that are found, in order, and the counts are those of
-- what is found, expanded and opened.
pub record HasSearched (h : Header) (es : List JournalEntry) (held : Held) (q : Asked) (r : Report)
    (old new : Option (List ℕ)) (opened opened_new expanded expanded_new : ℕ) : Type 0 where
  pub found : List Placed
  pub tried : List Placed
  pub all : List SegmentPlace
  pub segments : List SegmentPlace
  pub are_all : AreSegmentsOf es all
  pub are_found : AreFound h.version q (all_placed (content_of held)) found
  pub are_tried : AreTried h.version q (all_placed (content_of held)) tried
  pub are_opened : AreOpened held.types held.words q all segments
  pub printed : Grew old new (lines_of found)
  pub opens : opened_new ≡ opened + length segments
  pub expands : expanded_new ≡ expanded + length tried
  pub report : r ≡ record { matched = length found; expanded = length tried; opened = length segments; segments = length all }

-- The search was stopped: what is printed is a front of those lines, and no more was opened and expanded.
pub record HasStopped (h : Header) (es : List JournalEntry) (held : Held) (q : Asked) (old new : Option (List ℕ))
    (opened opened_new expanded expanded_new : ℕ) : Type 0 where
  pub printed : (found : List Placed) → AreFound h.version q (all_placed (content_of held)) found
      → GrewByFront old new (lines_of found)
  pub all : List SegmentPlace
  pub are_all : AreSegmentsOf es all
  pub opens : (segments : List SegmentPlace) → AreOpened held.types held.words q all segments
      → opened_new ≤ opened + length segments
  pub expands : (tried : List Placed) → AreTried h.version q (all_placed (content_of held)) tried
      → expanded_new ≤ expanded + length tried
