-- The words that the entries of a journal add.
use Rattle.std.specs.Prelude.{ℕ, List, [], ◌∷◌, ◌++◌}
use Rattle.archive_meaning.specs.declared.entry.JournalEntry.{JournalEntry}
use Rattle.archive_meaning.specs.declared.entry.JournalEntry.TheVariants.{Files, Types, Words, Segment}

abbrev pub words_in : JournalEntry → List (List ℕ)
words_in (Files names) = []
words_in (Types first texts) = []
words_in (Words first texts) = texts
words_in (Segment s) = []

abbrev pub words_of : List JournalEntry → List (List ℕ)
words_of [] = []
words_of (e ∷ es) = words_in e ++ words_of es
