-- The bytes of a journal's entries.
use Rattle.std.specs.Prelude.{ℕ, ◌+◌, List, [], ◌∷◌, ◌++◌, length}
use Rattle.std.specs.List.{flat_map}
use Rattle.record_format.specs.declared.header.Header.{Header}
use Rattle.record_format.specs.declared.kinds.TheConstants.{FILES_KIND, TYPES_KIND, WORDS_KIND, SEGMENT_KIND}
use Rattle.record_format.specs.Header.{header_bytes}
use Rattle.record_format.specs.Lists.{files_payload, texts_payload}
use Rattle.disk_journal.specs.Record.{Saved, spelled}
use Rattle.column_store.specs.declared.row.Row.{Row}
use Rattle.row_codec.specs.Numbers.{numbers_of_row}
use Rattle.segment_format.specs.Layout.{segment_bytes, sorted_set}
use Rattle.archive_meaning.specs.declared.entry.JournalEntry.{JournalEntry}
use Rattle.archive_meaning.specs.declared.entry.JournalEntry.TheVariants.{Files, Types, Words, Segment}

-- the rows' numbers of dictionary words, sorted, each once
abbrev pub words_named : List (List ℕ) → List Row → List ℕ
words_named types rows = sorted_set (flat_map (numbers_of_row types) rows)

-- the record of an entry, of the kind that it is; `types` are the log types of the entries before
abbrev pub record_of : List (List ℕ) → JournalEntry → Saved
record_of types (Files names) = record { kind = FILES_KIND; payload = files_payload names }
record_of types (Types first texts) = record { kind = TYPES_KIND; payload = texts_payload first texts }
record_of types (Words first texts) = record { kind = WORDS_KIND; payload = texts_payload first texts }
record_of types (Segment s) = record {
  kind = SEGMENT_KIND;
  payload = segment_bytes s.file s.first s.last s.ended s.rows (words_named types s.rows);
}

-- the log types that an entry adds
abbrev pub types_in : JournalEntry → List (List ℕ)
types_in (Files names) = []
types_in (Types first texts) = texts
types_in (Words first texts) = []
types_in (Segment s) = []

abbrev pub types_of : List JournalEntry → List (List ℕ)
types_of [] = []
types_of (e ∷ es) = types_in e ++ types_of es

-- the records of entries, behind entries with these log types
abbrev pub records_from : List (List ℕ) → List JournalEntry → List Saved
records_from types [] = []
records_from types (e ∷ es) = record_of types e ∷ records_from (types ++ types_in e) es

abbrev pub records_of : List JournalEntry → List Saved
records_of es = records_from [] es

-- the header and the entries, up to the gate behind them
abbrev pub front_of : Header → List JournalEntry → List ℕ
front_of h es = header_bytes h ++ spelled (records_of es)

-- the bytes of an archive: these and the closed gate
abbrev pub end_of : Header → List JournalEntry → ℕ
end_of h es = length (front_of h es) + 1
