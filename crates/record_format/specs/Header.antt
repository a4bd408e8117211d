-- The bytes of a header.
use Rattle.std.specs.Prelude.{◌≡◌, ◌≤◌, ℕ, List, [], ◌∷◌, ◌++◌, drop, take}
use Rattle.byteorder.specs.Endian.{little_bytes, little_number}
use Rattle.record_format.specs.declared.header.Header.{Header}
use Rattle.record_format.specs.declared.header.TheConstants.{LAST_VERSION, MAX_TYPES, MAX_WORDS, MIN_ARCHIVE_LEN, MAX_ARCHIVE_LEN}

-- C L P A R C H and a line end
abbrev pub mark : List ℕ
mark = 67 ∷ 76 ∷ 80 ∷ 65 ∷ 82 ∷ 67 ∷ 72 ∷ 10 ∷ []

-- the one spelling of a header; numbers have their lowest byte first
unfoldable pub header_bytes : Header → List ℕ
header_bytes h =
    mark ++ little_bytes 4 h.version ++ little_bytes 4 h.types_limit ++ little_bytes 4 h.words_limit ++ little_bytes 4 0
    ++ little_bytes 8 h.length_limit

-- the numbers that a header may have
pub record IsHeader (h : Header) : Type 0 where
  pub least_version : 1 ≤ h.version
  pub most_version : h.version ≤ LAST_VERSION
  pub least_types : 1 ≤ h.types_limit
  pub most_types : h.types_limit ≤ MAX_TYPES
  pub least_words : 1 ≤ h.words_limit
  pub most_words : h.words_limit ≤ MAX_WORDS
  pub least_length : MIN_ARCHIVE_LEN ≤ h.length_limit
  pub most_length : h.length_limit ≤ MAX_ARCHIVE_LEN

-- the numbers that stand at a header's places
abbrev pub header_in : List ℕ → Header
header_in bytes = record {
  version = little_number 4 (drop 8 bytes);
  types_limit = little_number 4 (drop 12 bytes);
  words_limit = little_number 4 (drop 16 bytes);
  length_limit = little_number 8 (drop 24 bytes);
}

-- the mark and the zero stand at a header's places
abbrev pub IsLaidOut : List ℕ → Type 0
IsLaidOut bytes = (take 8 bytes ≡ mark) × (little_number 4 (drop 20 bytes) ≡ 0)
