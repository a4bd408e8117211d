-- The entry that a record is of. It is told by the bytes alone, whatever they are; a record of a legal
-- journal gives the entry that it is spelled from.
use Rattle.std.specs.Prelude.{ℕ, zero, suc, ◌+◌, ◌*◌, ◌/◌, ◌%◌, ◌==◌, ℤ, pos, if◌then◌else◌}
use Rattle.std.specs.Prelude.{List, [], ◌∷◌, map, take, drop, slice_index, slice_index_or}
use Rattle.std.specs.Int.{w64, cast_signed}
use Rattle.byteorder.specs.Endian.{little_number}
use Rattle.record_format.specs.declared.kinds.TheConstants.{FILES_KIND, TYPES_KIND, WORDS_KIND}
use Rattle.disk_journal.specs.Record.{Saved}
use Rattle.column_store.specs.declared.row.Row.{Row}
use Rattle.archive_meaning.specs.declared.entry.SegmentEntry.{SegmentEntry}
use Rattle.archive_meaning.specs.declared.entry.JournalEntry.{JournalEntry}
use Rattle.archive_meaning.specs.declared.entry.JournalEntry.TheVariants.{Files, Types, Words, Segment}

-- numbers one after the other, each of so many bytes
abbrev pub numbers_in : ℕ → ℕ → List ℕ → List ℕ
numbers_in size zero bytes = []
numbers_in size (suc n) bytes = little_number size bytes ∷ numbers_in size n (drop size bytes)

-- texts one after the other, each behind its length
abbrev pub texts_in : ℕ → List ℕ → List (List ℕ)
texts_in zero bytes = []
texts_in (suc n) bytes = take (little_number 4 bytes) (drop 4 bytes) ∷ texts_in n (drop (4 + little_number 4 bytes) bytes)

abbrev pub list_in : List ℕ → List (List ℕ)
list_in bytes = texts_in (little_number 4 bytes) (drop 4 bytes)

-- rows by their fields: patterns, moments, log types, counts of words, and the words of all
abbrev pub rows_by : List ℕ → List ℤ → List ℕ → List ℕ → List ℕ → List Row
rows_by [] moments types counts words = []
rows_by (p ∷ patterns) moments types counts words =
    record {
      pattern = p;
      moment = slice_index_or moments 0 (pos 0);
      log_type = slice_index types 0;
      words = take (slice_index counts 0) words;
    }
    ∷ rows_by patterns (drop 1 moments) (drop 1 types) (drop 1 counts) (drop (slice_index counts 0) words)

-- so many rows with so many words, by their columns
abbrev pub rows_in : ℕ → ℕ → List ℕ → List Row
rows_in n v bytes =
    rows_by (take n bytes) (map (cast_signed w64) (numbers_in 8 n (drop n bytes))) (numbers_in 4 n (drop (n + 8 * n) bytes))
    (numbers_in 4 n (drop (n + 8 * n + 4 * n) bytes)) (numbers_in 8 v (drop (n + 8 * n + 4 * n + 4 * n) bytes))

abbrev pub segment_in : List ℕ → SegmentEntry
segment_in bytes = record {
  file = little_number 4 bytes;
  first = little_number 8 (drop 4 bytes);
  last = slice_index bytes 16 % 2 == 1;
  ended = slice_index bytes 16 / 2 % 2 == 1;
  rows = rows_in (little_number 4 (drop 12 bytes)) (little_number 4 (drop 41 bytes))
      (drop (45 + 4 * (little_number 4 (drop 33 bytes) + little_number 4 (drop 37 bytes))) bytes);
}

abbrev pub entry_in : Saved → JournalEntry
entry_in r =
    if r.kind == FILES_KIND then Files (list_in r.payload)
    else (if r.kind == TYPES_KIND then Types (little_number 4 r.payload) (list_in (drop 4 r.payload))
    else (if r.kind == WORDS_KIND then Words (little_number 4 r.payload) (list_in (drop 4 r.payload))
    else Segment (segment_in r.payload)))
