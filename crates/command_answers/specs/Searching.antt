-- What `search` prints: the messages of an archive that a pattern matches in a range, and with `--stats` the counts.
use Rattle.std.specs.Prelude.{◌≡◌, ℕ, List, [], ◌∷◌, ◌++◌, Bool, true, if◌then◌else◌, Option, codes, length}
use Rattle.std.specs.Fmt.{decimal}
use Rattle.std.specs.List.Sorted.{IsPermutation}
use Rattle.sink_pieces.specs.Output.{Took}
use Rattle.record_format.specs.declared.header.Header.{Header}
use Rattle.archive_meaning.specs.declared.entry.JournalEntry.{JournalEntry}
use Rattle.archive_meaning.specs.Held.{Held, content_of}
use Rattle.archive_open.specs.declared.segments.SegmentPlace.{SegmentPlace}
use Rattle.archive_open.specs.Shown.{places_of}
use Rattle.search_meaning.specs.declared.report.Report.{Report}
use Rattle.search_meaning.specs.Opened.{AreOpened}
use Rattle.printed_lines.specs.Lines.{Placed, lines_of}
use Rattle.search_meaning.specs.Scan.{AreFound, AreTried, Asked, all_placed}
use Rattle.search_meaning.specs.Journal.{OfJournal, ReadsNoBarren}

-- how many messages were found, and how many expanded; how many segments were opened, and how many there are
abbrev pub found_counts : Report → List ℕ
found_counts r =
    codes "matched " ++ (decimal r.matched ++ (codes " expanded " ++ (decimal r.expanded
    ++ (codes " opened " ++ (decimal r.opened ++ (codes " segments " ++ (decimal r.segments ++ 10 ∷ [])))))))

-- What is asked for finds this in a journal with these segments: the messages that the pattern matches in the range, those that
-- the widened pattern matches there, and the segments that are not barren.
pub record Found (h : Header) (held : Held) (q : Asked) (segments : List SegmentPlace) : Type 0 where
  pub found : List Placed
  pub tried : List Placed
  pub opened : List SegmentPlace
  pub are_found : AreFound h.version q (all_placed (content_of held)) found
  pub are_tried : AreTried h.version q (all_placed (content_of held)) tried
  pub are_opened : AreOpened held.types held.words q segments opened

-- its counts
abbrev pub report_of : List Placed → List Placed → List SegmentPlace → List SegmentPlace → Report
report_of found tried opened segments =
    record { matched = length found; expanded = length tried; opened = length opened; segments = length segments }

-- the lines of the messages that are found, and the line of the counts where it is asked for
abbrev pub found_text : Bool → List Placed → Report → List ℕ
found_text stats found report = lines_of found ++ (if stats then found_counts report else [])

-- With the journal's segments in some order, the output took the text of what is found, or a front of it; where it took all,
-- that was found.
pub record PrintsText (done : Bool) (h : Header) (es : List JournalEntry) (held : Held) (q : Asked) (stats : Bool)
    (old new : Option (List ℕ)) : Type 0 where
  pub segments : List SegmentPlace
  pub are_segments : IsPermutation (places_of es) segments
  pub there : done ≡ true → Found h held q segments
  pub took : (f : Found h held q segments)
      → Took done old new (found_text stats f.found (report_of f.found f.tried f.opened segments))

-- of the journal that the bytes stand for
abbrev pub PrintsFound : Bool → Asked → Bool → Option (List ℕ) → Option (List ℕ) → Option (List ℕ) → Type 0
PrintsFound done q stats bytes old new = OfJournal bytes (λ h es held. PrintsText done h es held q stats old new)

-- of the journal that the bytes stand for, no range that was read since has a byte of the columns of a barren segment
abbrev pub SparesBarren : Asked → Option (List ℕ) → Option (List (ℕ × ℕ)) → Option (List (ℕ × ℕ)) → Type 0
SparesBarren q bytes old new = OfJournal bytes (λ h es held. ReadsNoBarren h es held q old new)
