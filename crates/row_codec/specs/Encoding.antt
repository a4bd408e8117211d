-- What an encoder holds.
use Rattle.std.specs.Prelude.{ℕ, ◌≤◌, List, length, drop}
use Rattle.logtype_text.specs.Encoded.{IsEncoded}
use Rattle.time_patterns.specs.Stamps.{HasStamp}
use Rattle.column_store.specs.declared.row.Row.{Row}
use Rattle.row_codec.specs.declared.encoder.Encoder.{Encoder}

-- the encoder has read the line: it holds its stamp, and what is stored of its body
pub record HasRead (encoder : Encoder) (version : ℕ) (line : List ℕ) : Type 0 where
  pub stamped : HasStamp version line encoder.front.pattern encoder.front.moment encoder.front.len
  pub inside : encoder.front.len ≤ length line
  pub encoded : IsEncoded (drop encoder.front.len line) encoder.text.items encoder.codes.items encoder.places.items

-- the row that the encoder holds
abbrev pub row_held : Encoder → Row
row_held e = record { pattern = e.front.pattern; moment = e.front.moment; log_type = e.log_type; words = e.words.items }
