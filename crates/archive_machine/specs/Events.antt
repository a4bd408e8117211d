-- The events that lead to a journal.
use Rattle.std.specs.Prelude.{ℕ, ◌+◌, Bool, true, false, List, [], ◌∷◌, ◌++◌, length, map}
use Rattle.record_format.specs.declared.header.Header.{Header}
use Rattle.column_store.specs.declared.row.Row.{Row}
use Rattle.row_codec.specs.declared.namer.Which.{Which}
use Rattle.row_codec.specs.declared.namer.Which.TheVariants.{Types as OfTypes, Words as OfWords}
use Rattle.archive_meaning.specs.declared.entry.SegmentEntry.{SegmentEntry}
use Rattle.archive_meaning.specs.declared.entry.JournalEntry.{JournalEntry}
use Rattle.archive_meaning.specs.declared.entry.JournalEntry.TheVariants.{Files, Types, Words, Segment}
use Rattle.archive_meaning.specs.Held.{Held}
use Rattle.archive_meaning.specs.Legal.{Run}
use Rattle.archive_machine.specs.declared.event.Event.{Event}
use Rattle.archive_machine.specs.declared.event.Event.TheVariants.{Name, Add, Save, Seal}

-- the empty segment behind the others of a file, which ends it
abbrev pub ending : ℕ → ℕ → SegmentEntry
ending file first = record { file = file; first = first; last = true; ended = true; rows = [] }

-- a segment as the machine writes it: the end of a file stands in an empty segment of its own
abbrev pub bare_parts : SegmentEntry → Bool → List Row → List JournalEntry
bare_parts s false rows = Segment s ∷ []
bare_parts s true [] = Segment (record s { ended = true }) ∷ []
bare_parts s true (row ∷ rows) =
    Segment (record s { last = false; ended = false }) ∷ Segment (ending s.file (s.first + length s.rows)) ∷ []

-- the journal without names of files, each end of a file in a segment of its own and told as ended by a newline
abbrev pub bare : List JournalEntry → List JournalEntry
bare [] = []
bare (Files names ∷ es) = bare es
bare (Types first texts ∷ es) = Types first texts ∷ bare es
bare (Words first texts ∷ es) = Words first texts ∷ bare es
bare (Segment s ∷ es) = bare_parts s s.last s.rows ++ bare es

-- how many of the events write an entry to the journal
abbrev pub writes : List Event → ℕ
writes [] = 0
writes (Name worker book text ∷ events) = writes events
writes (Add worker message ∷ events) = writes events
writes (Save book ∷ events) = 1 + writes events
writes (Seal worker ∷ events) = 1 + writes events

-- a worker names texts in order
abbrev pub namings : Which → List (List ℕ) → List Event
namings book texts = map (λ text. Name 0 book text) texts

-- and adds messages in order
abbrev pub adds : ℕ → List (List ℕ) → List Event
adds worker messages = map (λ message. Add worker message) messages

-- one Seal for each segment that the machine writes
abbrev pub seals : ℕ → Bool → List Row → List Event
seals file true (row ∷ rows) = Seal file ∷ Seal file ∷ []
seals file true [] = Seal file ∷ []
seals file false rows = Seal file ∷ []

-- the events of a journal, entry by entry; the messages of its segments are told by the run
abbrev pub events_of : (h : Header) (held more : Held) (es : List JournalEntry) → Run h held es more → List Event
events_of h held more [] run = []
events_of h held more (Files names ∷ es) run = events_of h run.0 more es run.2
events_of h held more (Types first texts ∷ es) run = namings OfTypes texts ++ (Save OfTypes ∷ events_of h run.0 more es run.2)
events_of h held more (Words first texts ∷ es) run = namings OfWords texts ++ (Save OfWords ∷ events_of h run.0 more es run.2)
events_of h held more (Segment s ∷ es) run =
    adds s.file run.1.0 ++ (seals s.file s.last s.rows ++ events_of h run.0 more es run.2)
