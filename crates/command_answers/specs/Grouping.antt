-- What `count` prints: how many messages of an archive a pattern matches in a range, by log type or by minute, and with
-- `--stats` the counts of the search.
use Rattle.std.specs.Prelude.{◌≡◌, ◌⊎◌, ℕ, List, [], ◌++◌, Bool, true, false, if◌then◌else◌, Option, length}
use Rattle.std.specs.List.Sorted.{IsPermutation}
use Rattle.sink_pieces.specs.Output.{Grew, GrewByFront}
use Rattle.record_format.specs.declared.header.Header.{Header}
use Rattle.archive_meaning.specs.declared.entry.JournalEntry.{JournalEntry}
use Rattle.archive_meaning.specs.Held.{Held, content_of}
use Rattle.archive_open.specs.declared.segments.SegmentPlace.{SegmentPlace}
use Rattle.archive_open.specs.Shown.{places_of}
use Rattle.search_meaning.specs.Opened.{AreOpened}
use Rattle.printed_lines.specs.Lines.{Placed}
use Rattle.search_meaning.specs.Scan.{AreFound, Asked, all_placed}
use Rattle.search_meaning.specs.Journal.{OfJournal}
use Rattle.search_meaning.specs.Grouped.{AreExpanded, IsGrouped, messages_of}
use Rattle.search_meaning.specs.GroupLines.{minutes_text, types_text}
use Rattle.search_meaning.specs.declared.groups.Group.{Group}
use Rattle.search_meaning.specs.declared.groups.GroupBy.{GroupBy}
use Rattle.search_meaning.specs.declared.groups.GroupBy.TheVariants as by
use Rattle.search_meaning.specs.declared.groups.Grouped.{Grouped}
use Rattle.search_meaning.specs.declared.report.GroupReport.{GroupReport}
use Rattle.command_words.specs.declared.command.CountKey.{CountKey}
use Rattle.command_words.specs.declared.command.CountKey.TheVariants as key
use Rattle.command_answers.specs.Searching.{found_counts}

-- what is grouped by, of what is asked for
abbrev pub grouped_by : CountKey → GroupBy
grouped_by key.LogType = by.Shape
grouped_by key.Minute = by.Minute

-- In a journal these are the groups of the messages that the pattern matches in the range. And these are the counts: of those
-- messages, of those that are expanded, of the segments that are not barren, and of all segments.
pub record IsCounted (h : Header) (es : List JournalEntry) (held : Held) (q : Asked) (by : GroupBy) (g : Grouped) : Type 0 where
  pub found : List Placed
  pub expanded : List Placed
  pub opened : List SegmentPlace
  pub segments : List SegmentPlace
  pub are_found : AreFound h.version q (all_placed (content_of held)) found
  pub are_expanded : AreExpanded h.version q (all_placed (content_of held)) expanded
  pub are_segments : IsPermutation (places_of es) segments
  pub are_opened : AreOpened held.types held.words q segments opened
  pub groups : IsGrouped h.version by (messages_of found) g.groups g.without
  pub report : g.report
      ≡ record { matched = length found; expanded = length expanded; opened = length opened; segments = length segments }

-- the lines of the groups
abbrev pub groups_text : GroupBy → List Group → ℕ → List ℕ
groups_text by.Shape groups without = types_text groups
groups_text by.Minute groups without = minutes_text groups without

-- the line of the counts, as that of `search`
abbrev pub group_counts : GroupReport → List ℕ
group_counts r = found_counts (record { matched = r.matched; expanded = r.expanded; opened = r.opened; segments = r.segments })

-- the lines of the groups, and the line of the counts where it is asked for
abbrev pub grouped_text : Bool → GroupBy → Grouped → List ℕ
grouped_text stats by g = groups_text by g.groups g.without ++ (if stats then group_counts g.report else [])

-- what was counted in the journal that the bytes stand for has a text, and the output took what `took` says of it
pub record TellsGroups (took : List ℕ → Type 0) (q : Asked) (by : GroupBy) (stats : Bool) (bytes : Option (List ℕ)) : Type 0 where
  pub grouped : Grouped
  pub counted : OfJournal bytes (λ h es held. IsCounted h es held q by grouped)
  pub text : took (grouped_text stats by grouped)

-- The output took that text; or a front of it, or nothing, where the command was refused.
abbrev pub PrintsGroups : Bool → Asked → GroupBy → Bool → Option (List ℕ) → Option (List ℕ) → Option (List ℕ) → Type 0
PrintsGroups true q by stats bytes old new = TellsGroups (Grew old new) q by stats bytes
PrintsGroups false q by stats bytes old new = (new ≡ old) ⊎ TellsGroups (GrewByFront old new) q by stats bytes
