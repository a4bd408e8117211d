-- What is found in the segments behind some entries, in the order of the journal.
use Rattle.std.specs.Prelude.{◌≡◌, ℕ, ◌+◌, List, [], ◌∷◌, ◌++◌, slice_index_or}
use Rattle.record_format.specs.declared.header.Header.{Header}
use Rattle.row_codec.specs.Means.{AreCanonical}
use Rattle.wild_match.specs.declared.pattern.Item.{Item}
use Rattle.archive_meaning.specs.declared.entry.JournalEntry.{JournalEntry}
use Rattle.archive_meaning.specs.declared.entry.JournalEntry.TheVariants.{Files, Types, Words, Segment}
use Rattle.archive_meaning.specs.Held.{Held}
use Rattle.archive_meaning.specs.Legal.{Accepts}
use Rattle.printed_lines.specs.Lines.{Placed, numbered}
use Rattle.printed_lines.specs.Printed.{AreMatched}

-- behind entries that hold this the entry brings these messages, which the pattern matches
abbrev pub Brings : Header → List Item → Held → JournalEntry → List Placed → Type 0
Brings h pattern held (Files names) here = here ≡ []
Brings h pattern held (Types first texts) here = here ≡ []
Brings h pattern held (Words first texts) here = here ≡ []
Brings h pattern held (Segment s) here =
    (messages : List (List ℕ)) × AreCanonical h.version s.rows held.types held.words messages
    × AreMatched pattern (numbered (slice_index_or held.names s.file []) (s.first + 1) messages) here

-- entry by entry: what these bring, and what is held at the end
abbrev pub Live : Header → List Item → Held → List JournalEntry → List Placed → Held → Type 0
Live h pattern held [] found end = (found ≡ []) × (end ≡ held)
Live h pattern held (e ∷ es) found end =
    (mid : Held) × (here : List Placed) × (rest : List Placed) × Accepts h held e mid × Brings h pattern held e here
    × Live h pattern mid es rest end × (found ≡ here ++ rest)
