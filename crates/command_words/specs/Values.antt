-- How the values of words and options are written.
use Rattle.std.specs.Prelude.{◌≡◌, ◌≤◌, ℕ, ℤ, List, Option, Some, None, FitsSigned, IsSomeAnd, codes}
use Rattle.std.specs.Fmt.{decimal, signed_decimal}
use mir.Syntax.{w64}
use Rattle.command_words.specs.declared.command.CountKey.{CountKey}
use Rattle.command_words.specs.declared.command.CountKey.TheVariants.{LogType, Minute}

-- the text is the plain decimal print of this number, which lies in the range
pub record IsNumber (least most : ℕ) (text : List ℕ) (n : ℕ) : Type 0 where
  pub written : text ≡ decimal n
  pub low : least ≤ n
  pub high : n ≤ most

-- an option's number, which is the default where no text is given
abbrev pub IsNumberOr : ℕ → ℕ → ℕ → Option (List ℕ) → ℕ → Type 0
IsNumberOr default least most None n = n ≡ default
IsNumberOr default least most (Some text) n = IsNumber least most text n

-- a word's number
abbrev pub IsNumberIn : ℕ → ℕ → Option (List ℕ) → ℕ → Type 0
IsNumberIn least most None n = ⊥
IsNumberIn least most (Some text) n = IsNumber least most text n

-- the text is the plain decimal print of this number of 64 signed bits
pub record IsMoment (text : List ℕ) (z : ℤ) : Type 0 where
  pub written : text ≡ signed_decimal z
  pub fits : FitsSigned w64 z

-- an option's moment, which is none where no text is given
abbrev pub IsMomentIn : Option (List ℕ) → Option ℤ → Type 0
IsMomentIn None moment = moment ≡ None
IsMomentIn (Some text) moment = IsSomeAnd moment (IsMoment text)

-- the text is such a number, where it is given
abbrev pub IsGood : ℕ → ℕ → Option (List ℕ) → Type 0
IsGood least most None = Unit {0}
IsGood least most (Some text) = (n : ℕ) × IsNumber least most text n

abbrev pub IsGoodMoment : Option (List ℕ) → Type 0
IsGoodMoment None = Unit {0}
IsGoodMoment (Some text) = (z : ℤ) × IsMoment text z

-- the word for what messages are counted by
abbrev pub key_word : CountKey → List ℕ
key_word LogType = codes "type"
key_word Minute = codes "minute"

abbrev pub IsKeyIn : Option (List ℕ) → CountKey → Type 0
IsKeyIn text key = text ≡ Some (key_word key)

-- the text is such a word, where it is given
abbrev pub IsGoodKey : Option (List ℕ) → Type 0
IsGoodKey None = Unit {0}
IsGoodKey (Some text) = (key : CountKey) × (text ≡ key_word key)

pub record IsWithin (least most n : ℕ) : Type 0 where
  pub low : least ≤ n
  pub high : n ≤ most
