-- The payloads of the records that hold texts.
use Rattle.std.specs.Prelude.{◌<◌, ◌^◌, ℕ, List, ◌++◌, length, All}
use Rattle.std.specs.List.{flat_map}
use Rattle.byteorder.specs.Endian.{little_bytes}

-- a number in four bytes, the lowest first
unfoldable pub four_bytes : ℕ → List ℕ
four_bytes n = little_bytes 4 n

-- a text: its length, and its bytes
abbrev pub text_bytes : List ℕ → List ℕ
text_bytes text = four_bytes (length text) ++ text

-- a list of texts: its count, and the texts one after the other
abbrev pub list_bytes : List (List ℕ) → List ℕ
list_bytes texts = four_bytes (length texts) ++ flat_map text_bytes texts

-- the one spelling of the names of files
abbrev pub files_payload : List (List ℕ) → List ℕ
files_payload names = list_bytes names

-- the one spelling of the texts that have the numbers from `first` on
abbrev pub texts_payload : ℕ → List (List ℕ) → List ℕ
texts_payload first texts = four_bytes first ++ list_bytes texts

-- texts that have a spelling
pub record AreTexts (texts : List (List ℕ)) : Type 0 where
  pub count : length texts < 2 ^ 32
  pub lengths : All (λ text. length text < 2 ^ 32) texts
