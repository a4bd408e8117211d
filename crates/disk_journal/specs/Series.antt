-- Several framed texts, appended one after the other.
use Rattle.std.specs.Prelude.{ℕ, ◌+◌, List, [], ◌∷◌, length, map}
use Rattle.disk_journal.specs.Record.{Saved, saved_of}

-- the records of the texts
abbrev pub saved_all : List (List ℕ) → List Saved
saved_all texts = map saved_of texts

-- the bytes that the texts need
abbrev pub size_all : List (List ℕ) → ℕ
size_all [] = 0
size_all (text ∷ texts) = length text + size_all texts
