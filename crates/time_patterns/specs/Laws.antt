-- What is true of all patterns, moments and lines.
use Rattle.std.specs.Prelude.{◌≡◌, ℕ, ◌%◌, ◌<◌, ◌≤◌, ◌||◌, ◌==◌, ◌↔◌, Bool, IsTrue, List, ◌∷◌}
use Rattle.std.specs.Prelude.{◌++◌, length, take, ℤ, pos, neg_ℤ, ◌<ℤ◌, ◌≤ℤ◌, unsigned_abs, All}
use Rattle.std.specs.Int.{is_in_range}
use Rattle.time_patterns.specs.Stamps.{Prints, EndsStamp, Fits, HasStamp, IsPatternOf, IsPrintable, IsStampOf}

-- no two moments share a text of one pattern
abbrev pub OneMoment : Type 0
OneMoment = (k : ℕ) (m l : ℤ) (text : List ℕ) → Prints k m text → Prints k l text → m ≡ l

-- and no two texts of one pattern share a moment
abbrev pub OneText : Type 0
OneText = (k : ℕ) (m : ℤ) (text other : List ℕ) → Prints k m text → Prints k m other → text ≡ other

-- a message has one pattern, moment and length in a version, which are 0 where it has no stamp
abbrev pub OneStampOf : Type 0
OneStampOf =
    (version : ℕ) (line : List ℕ) (k j : ℕ) (m l : ℤ) (n o : ℕ)
    → HasStamp version line k m n → HasStamp version line j l o → (k ≡ j) × (m ≡ l) × (n ≡ o)

-- A text that is printed reads back as its pattern and moment, whatever ends it, unless a lower
-- pattern of the version fits there too.
abbrev pub ReadsBack : Type 0
ReadsBack =
    (version k : ℕ) (m : ℤ) (text rest : List ℕ)
    → IsPatternOf version k → Prints k m text → EndsStamp rest
    → ((j : ℕ) (l : ℤ) (n : ℕ) → IsPatternOf version j → j < k → ¬ Fits (text ++ rest) j l n)
    → IsStampOf version (text ++ rest) k m (length text)

-- a digit, `-`, `.`, `T`, `Z`, `:`, `,`, `/`, `[`, `]` or the space
abbrev pub is_stamp_byte : ℕ → Bool
is_stamp_byte b =
    is_in_range 48 57 b || (b == 45) || (b == 46) || (b == 84) || (b == 90) || (b == 58) || (b == 44)
    || (b == 47) || (b == 91) || (b == 93) || (b == 32)

-- a stamp's text has 17 to 28 bytes, and no others than these
abbrev pub ShortTexts : Type 0
ShortTexts =
    (k : ℕ) (m : ℤ) (text : List ℕ) → Prints k m text
    → (17 ≤ length text) × (length text ≤ 28) × All (λ b. IsTrue (is_stamp_byte b)) text

-- the stamp of a message is that of its first 32 bytes
abbrev pub FrontTells : Type 0
FrontTells =
    (version : ℕ) (line : List ℕ) (k : ℕ) (m : ℤ) (n : ℕ)
    → HasStamp version (take 32 line) k m n ↔ HasStamp version line k m n

-- and that of its first line: what stands behind the first newline changes nothing
abbrev pub FirstLineTells : Type 0
FirstLineTells =
    (version : ℕ) (line more : List ℕ) (k : ℕ) (m : ℤ) (n : ℕ)
    → HasStamp version line k m n ↔ HasStamp version (line ++ 10 ∷ more) k m n

-- versions below 3 have the same stamps, and so have those from 3 on
abbrev pub AlikeVersions : Type 0
AlikeVersions =
    (version other : ℕ) (line : List ℕ) (k : ℕ) (m : ℤ) (n : ℕ) → (version < 3 ↔ other < 3)
    → HasStamp version line k m n → HasStamp other line k m n

-- pattern k prints the moments from the first to before the end that are whole numbers of the unit
abbrev pub PrintsFrom : ℕ → ℤ → ℤ → ℕ → Type 0
PrintsFrom k first end unit =
    (m : ℤ) → IsPrintable k m ↔ ((first ≤ℤ m) × (m <ℤ end) × (unsigned_abs m % unit ≡ 0))

-- 0000-01-01 and 10000-01-01, in milliseconds and in microseconds
abbrev pub first_milli : ℤ
first_milli = neg_ℤ (pos 62_167_219_200_000)

abbrev pub end_milli : ℤ
end_milli = pos 253_402_300_800_000

abbrev pub first_micro : ℤ
first_micro = neg_ℤ (pos 62_167_219_200_000_000)

abbrev pub end_micro : ℤ
end_micro = pos 253_402_300_800_000_000

-- The moments that patterns print, as numbers. Where the year has two digits, they are those from
-- 2000-01-01 to before 2100-01-01. No other numbers are patterns.
pub record PrintedMoments : Type 0 where
  pub patterns : (k : ℕ) (m : ℤ) → IsPrintable k m → (1 ≤ k) × (k ≤ 26)
  -- moments in milliseconds
  pub milliseconds : (k : ℕ) → 1 ≤ k → k ≤ 5 → PrintsFrom k first_milli end_milli 1
  pub seconds : (k : ℕ) → 6 ≤ k → k ≤ 9 → PrintsFrom k first_milli end_milli 1000
  pub short_years : PrintsFrom 10 (pos 946_684_800_000) (pos 4_102_444_800_000) 1000
  -- moments in microseconds
  pub micro_microseconds : (k : ℕ) → 11 ≤ k → k ≤ 16 → PrintsFrom k first_micro end_micro 1
  pub micro_milliseconds : (k : ℕ) → 17 ≤ k → k ≤ 21 → PrintsFrom k first_micro end_micro 1000
  pub micro_seconds : (k : ℕ) → 22 ≤ k → k ≤ 25 → PrintsFrom k first_micro end_micro 1_000_000
  pub micro_short_years : PrintsFrom 26 (pos 946_684_800_000_000) (pos 4_102_444_800_000_000) 1_000_000
