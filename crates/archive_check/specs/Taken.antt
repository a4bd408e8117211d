-- What a judge makes of a record.
use Rattle.std.specs.Prelude.{◌≡◌, ◌≢◌, ℕ, Bool, List}
use Rattle.column_store.specs.declared.row.Row.{Row}
use Rattle.segment_format.specs.declared.head.Head.{Head}
use Rattle.segment_format.specs.Layout.{IsSegment, segment_bytes}
use Rattle.archive_meaning.specs.declared.entry.JournalEntry.{JournalEntry}
use Rattle.archive_meaning.specs.Spelled.{record_of}
use Rattle.archive_meaning.specs.StepsForms.{HasForm}
use Rattle.archive_meaning.specs.Sums.{Admits, Sums}

-- the record is of an entry that was admitted
abbrev pub Takes : Sums → ℕ → List ℕ → Sums → Type 0
Takes old kind payload new =
    (e : JournalEntry) × (record_of old.types e ≡ record { kind = kind; payload = payload }) × Admits old e new

-- the record is of no entry that may follow
abbrev pub TakesNone : Sums → ℕ → List ℕ → Type 0
TakesNone old kind payload =
    (e : JournalEntry) (more : Sums) → HasForm old.types e → Admits old e more
    → record_of old.types e ≢ record { kind = kind; payload = payload }

-- the payload is that of no segment
abbrev pub SpellsNoSegment : List ℕ → Type 0
SpellsNoSegment payload =
    (file first : ℕ) (last ended : Bool) (rows : List Row) (words : List ℕ) → IsSegment file first last ended rows words
    → payload ≢ segment_bytes file first last ended rows words

-- where the payload is that of a segment, these are its parts
abbrev pub HasParts : List ℕ → Head → List Row → Type 0
HasParts payload head found =
    (file first : ℕ) (last ended : Bool) (rows : List Row) (words : List ℕ) → IsSegment file first last ended rows words
    → payload ≡ segment_bytes file first last ended rows words
    → (head.file ≡ file) × (head.first ≡ first) × (head.last ≡ last) × (head.ended ≡ ended) × (found ≡ rows)
