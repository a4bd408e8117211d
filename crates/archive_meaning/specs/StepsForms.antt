-- The numbers of an entry fit the fields of its record.
use Rattle.std.specs.Prelude.{◌≡◌, ◌<◌, ◌^◌, ◌++◌, ℕ, Bool, true, List, [], ◌∷◌, length, All}
use Rattle.column_store.specs.Row.{IsRow, variable_count}
use Rattle.column_store.specs.declared.row.Row.{Row}
use Rattle.disk_journal.specs.Record.{Fits}
use Rattle.record_format.specs.Lists.{AreTexts}
use Rattle.archive_meaning.specs.declared.entry.JournalEntry.{JournalEntry}
use Rattle.archive_meaning.specs.declared.entry.JournalEntry.TheVariants.{Files, Types, Words, Segment}
use Rattle.archive_meaning.specs.Spelled.{record_of, types_in, words_named}

-- those of a segment
pub record IsSegment (file first : ℕ) (last ended : Bool) (rows : List Row) (words : List ℕ) : Type 0 where
  pub file_fits : file < 2 ^ 32
  pub first_fits : first < 2 ^ 64
  pub rows_fit : All IsRow rows
  pub few_rows : length rows < 2 ^ 32
  pub few_variables : variable_count rows < 2 ^ 32
  pub words_fit : All (λ w. w < 2 ^ 32) words
  pub few_words : length words < 2 ^ 32
  pub closed : ended ≡ true → last ≡ true

-- those of an entry behind these log types
abbrev pub HasForm : List (List ℕ) → JournalEntry → Type 0
HasForm types (Files names) = AreTexts names
HasForm types (Types first texts) = (first < 2 ^ 32) × AreTexts texts
HasForm types (Words first texts) = (first < 2 ^ 32) × AreTexts texts
HasForm types (Segment s) = IsSegment s.file s.first s.last s.ended s.rows (words_named types s.rows)

-- each entry has its form, and its payload a length of eight bytes, behind the log types of those before it
abbrev pub HaveForms : List (List ℕ) → List JournalEntry → Type 0
HaveForms types [] = Unit {0}
HaveForms types (e ∷ es) = HasForm types e × Fits (record_of types e) × HaveForms (types ++ types_in e) es
