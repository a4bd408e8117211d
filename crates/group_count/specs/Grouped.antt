-- What a count of an archive's messages has done, said of the journal that the disk's bytes stand for.
use Rattle.std.specs.Prelude.{◌≡◌, ◌≤◌, ◌+◌, ℕ, List, length, Option}
use Rattle.log_seams.specs.Disk.{DiskState}
use Rattle.record_format.specs.declared.header.Header.{Header}
use Rattle.archive_meaning.specs.declared.entry.JournalEntry.{JournalEntry}
use Rattle.archive_meaning.specs.Held.{Held, content_of}
use Rattle.archive_open.specs.declared.segments.SegmentPlace.{SegmentPlace}
use Rattle.printed_lines.specs.Lines.{Placed}
use Rattle.search_meaning.specs.Scan.{AreFound, Asked, all_placed}
use Rattle.search_meaning.specs.Opened.{AreOpened}
use Rattle.search_meaning.specs.Journal.{AreSegmentsOf, OfJournal, ReadsNoBarren}
use Rattle.search_meaning.specs.declared.groups.GroupBy.{GroupBy}
use Rattle.search_meaning.specs.declared.groups.Grouped.{Grouped}
use Rattle.search_meaning.specs.Grouped.{AreExpanded, IsGrouped, messages_of}

-- All was counted: the groups are those of the messages that are found, and the counts are those of what is found,
-- expanded and opened.
pub record HasGrouped (h : Header) (es : List JournalEntry) (held : Held) (q : Asked) (by : GroupBy) (g : Grouped)
    (opened opened_new expanded expanded_new : ℕ) : Type 0 where
  pub found : List Placed
  pub expansions : List Placed
  pub all : List SegmentPlace
  pub segments : List SegmentPlace
  pub are_all : AreSegmentsOf es all
  pub are_found : AreFound h.version q (all_placed (content_of held)) found
  pub are_expanded : AreExpanded h.version q (all_placed (content_of held)) expansions
  pub are_opened : AreOpened held.types held.words q all segments
  pub groups : IsGrouped h.version by (messages_of found) g.groups g.without
  pub opens : opened_new ≡ opened + length segments
  pub expands : expanded_new ≡ expanded + length expansions
  pub report : g.report
      ≡ record { matched = length found; expanded = length expansions; opened = length segments; segments = length all }

-- The count was stopped: no more was opened and expanded.
pub record HasStoppedCounting (h : Header) (es : List JournalEntry) (held : Held) (q : Asked)
    (opened opened_new expanded expanded_new : ℕ) : Type 0 where
  pub all : List SegmentPlace
  pub are_all : AreSegmentsOf es all
  pub opens : (segments : List SegmentPlace) → AreOpened held.types held.words q all segments
      → opened_new ≤ opened + length segments
  pub expands : (expansions : List Placed) → AreExpanded h.version q (all_placed (content_of held)) expansions
      → expanded_new ≤ expanded + length expansions

-- What is said of the journal that the bytes of a disk stand for: that no column of a barren segment was read, that all was
-- counted, that the count was stopped, and that they stand for none.
abbrev pub ReadsAside : DiskState → DiskState → Asked → Type 0
ReadsAside old new q = OfJournal old.seen (λ h es held. ReadsNoBarren h es held q old.ranges new.ranges)

abbrev pub GroupsJournal : Option (List ℕ) → Asked → GroupBy → Grouped → ℕ → ℕ → ℕ → ℕ → Type 0
GroupsJournal seen q by g opened opened_new expanded expanded_new =
    OfJournal seen (λ h es held. HasGrouped h es held q by g opened opened_new expanded expanded_new)

abbrev pub StopsJournal : Option (List ℕ) → Asked → ℕ → ℕ → ℕ → ℕ → Type 0
StopsJournal seen q opened opened_new expanded expanded_new =
    OfJournal seen (λ h es held. HasStoppedCounting h es held q opened opened_new expanded expanded_new)

abbrev pub IsNoJournal : Option (List ℕ) → Type 0
IsNoJournal seen = OfJournal seen (λ _ _ _. ⊥)
