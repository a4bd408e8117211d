-- The texts of a payload, each by the place of its length.
use Rattle.std.specs.Prelude.{◌≡◌, ◌<◌, ◌^◌, ℕ, ◌+◌, List, [], ◌∷◌, ◌++◌, All, length, map, take, drop, slice_index_or}
use Rattle.byteorder.specs.Endian.{little_number}
use Rattle.record_format.specs.Lists.{AreTexts, four_bytes, list_bytes, text_bytes}

-- at this place of the bytes stands the length of a text, and then the text
abbrev pub IsTextAt : List ℕ → ℕ → Type 0
IsTextAt bytes start = (text : List ℕ) × (rest : List ℕ) × (length text < 2 ^ 32) × (drop start bytes ≡ text_bytes text ++ rest)

-- that text
abbrev pub text_from : List ℕ → ℕ → List ℕ
text_from bytes start = take (little_number 4 (drop start bytes)) (drop (start + 4) bytes)

-- each text ends where the next one begins, and the last of them at this end
abbrev pub AreBeside : List ℕ → ℕ → List ℕ → Type 0
AreBeside bytes end [] = Unit {0}
AreBeside bytes end (start ∷ starts) =
    (slice_index_or starts 0 end ≡ start + 4 + length (text_from bytes start)) × AreBeside bytes end starts

-- so many texts are the last bytes, with nothing behind them, and stand at these starts
pub record AreWalked (count : ℕ) (texts bytes starts : List ℕ) : Type 0 where
  pub stand : All (IsTextAt bytes) starts
  pub beside : AreBeside bytes (length bytes) starts
  pub are : AreTexts (map (text_from bytes) starts)
  pub spelled : four_bytes count ++ texts ≡ list_bytes (map (text_from bytes) starts)
