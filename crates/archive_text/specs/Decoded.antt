-- What the decoding of a file writes.
use Rattle.std.specs.Prelude.{◌≡◌, ℕ, List, Bool, Option, Some, None, slice_get}
use Rattle.sink_pieces.specs.Output.{Took}
use Rattle.record_format.specs.declared.header.Header.{Header}
use Rattle.archive_meaning.specs.declared.entry.JournalEntry.{JournalEntry}
use Rattle.archive_meaning.specs.Held.{File, content_of, file_text}
use Rattle.archive_meaning.specs.Stands.{StandsFor}

-- Where the bytes are told and stand for a journal, the sink took the bytes of the file of a number in it, or a front of
-- them where it is not done.
abbrev pub Decodes : Bool → ℕ → Option (List ℕ) → Option (List ℕ) → Option (List ℕ) → Type 0
Decodes done number None old new = Unit {0}
Decodes done number (Some bytes) old new =
    (h : Header) (es : List JournalEntry) (stood : StandsFor bytes h es) (file : File)
    → slice_get (content_of stood.legal.held) number ≡ Some file → Took done old new (file_text file)
