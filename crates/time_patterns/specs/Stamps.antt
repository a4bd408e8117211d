-- Time stamps: which text stands for which moment, and which stamp a line has.
use Rattle.std.specs.Prelude.{◌≡◌, ℕ, zero, suc, ◌<◌, ◌≤◌, nat_le, if◌then◌else◌, List, [], ◌∷◌, ◌++◌, length, ℤ, pos}
use Rattle.token_rules.specs.Tokens.{IsDelimiter}
use Rattle.time_patterns.specs.declared.form.Form.{Form}
use Rattle.time_patterns.specs.Forms.{IsForm, PrintsForm}

-- the text is that of pattern k for the moment
abbrev pub Prints : ℕ → ℤ → List ℕ → Type 0
Prints k moment text = (form : Form) × IsForm k form × PrintsForm form moment text

-- pattern k prints the moment
abbrev pub IsPrintable : ℕ → ℤ → Type 0
IsPrintable k moment = (text : List ℕ) × Prints k moment text

-- what stands behind a stamp: the line ends there, or a delimiter follows
abbrev pub EndsStamp : List ℕ → Type 0
EndsStamp [] = Unit {0}
EndsStamp (b ∷ rest) = IsDelimiter b

-- the line begins with the text of n bytes, and behind it the line ends or a delimiter stands
abbrev pub BeginsWith : List ℕ → List ℕ → ℕ → Type 0
BeginsWith line text n = (rest : List ℕ) × (line ≡ text ++ rest) × EndsStamp rest × (length text ≡ n)

-- pattern k fits the line: it begins with the text of n bytes that the pattern prints for the moment
abbrev pub Fits : List ℕ → ℕ → ℤ → ℕ → Type 0
Fits line k moment n = (text : List ℕ) × Prints k moment text × BeginsWith line text n

-- the patterns of an archive's version: 1 to 10, and 11 to 26 from version 3 on
abbrev pub first_pattern : ℕ → ℕ
first_pattern version = if nat_le 3 version then 11 else 1

abbrev pub last_pattern : ℕ → ℕ
last_pattern version = if nat_le 3 version then 26 else 10

abbrev pub IsPatternOf : ℕ → ℕ → Type 0
IsPatternOf version k = (first_pattern version ≤ k) × (k ≤ last_pattern version)

-- the stamp of a message in a version: of the version's patterns that fit it the least
pub record IsStampOf (version : ℕ) (message : List ℕ) (k : ℕ) (moment : ℤ) (n : ℕ) : Type 0 where
  pub pattern : IsPatternOf version k
  pub fits : Fits message k moment n
  pub least : (j : ℕ) (m : ℤ) (l : ℕ) → IsPatternOf version j → j < k → ¬ Fits message j m l

-- no pattern of the version fits the message
abbrev pub HasNoStamp : ℕ → List ℕ → Type 0
HasNoStamp version message = (k : ℕ) (moment : ℤ) (n : ℕ) → IsPatternOf version k → ¬ Fits message k moment n

-- The stamp of a message as a row keeps it: the pattern's number, the moment and the length of the text, which
-- are 0 where there is no stamp.
abbrev pub HasStamp : ℕ → List ℕ → ℕ → ℤ → ℕ → Type 0
HasStamp version message zero moment n = HasNoStamp version message × (moment ≡ pos 0) × (n ≡ 0)
HasStamp version message (suc k) moment n = IsStampOf version message (suc k) moment n

-- the message has a stamp
abbrev pub IsStamped : ℕ → List ℕ → Type 0
IsStamped version message = (k : ℕ) × (moment : ℤ) × (n : ℕ) × IsStampOf version message k moment n
