-- Which messages rows are the encodings of.
use Rattle.std.specs.Prelude.{ℕ, List, All}
use Rattle.column_store.specs.declared.row.Row.{Row}
use Rattle.row_codec.specs.Means.{AreCanonical, IsCanonical}
use Rattle.row_codec.specs.Messages.{IsMessage}

-- the row is the encoding of this message of an archive of this version
abbrev pub IsMessageOf : ℕ → List (List ℕ) → List (List ℕ) → Row → List ℕ → Type 0
IsMessageOf version types words row message = IsCanonical version row types words message × IsMessage version message

-- the rows are the encodings of these messages, in order
abbrev pub AreMessages : ℕ → List (List ℕ) → List (List ℕ) → List Row → List (List ℕ) → Type 0
AreMessages version types words rows messages = AreCanonical version rows types words messages × All (IsMessage version) messages
