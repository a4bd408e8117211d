-- Which names of files are refused before an archive is looked at, and how many files are too many for one.
use Rattle.std.specs.Prelude.{◌≡◌, ◌+◌, ◌<◌, ◌≤◌, ℕ, List, ◌∷◌, ◌++◌, length, All, Option, Some, None}
use Rattle.command_refusals.specs.declared.outcome.AddRefusal.{AddRefusal}
use Rattle.command_refusals.specs.declared.outcome.AddRefusal.TheVariants.{NameTooLong, TooManyFiles}

-- a name within the limit
abbrev pub IsShortName : List ℕ → Type 0
IsShortName name = length name ≤ 4096

-- the first name that is too long stands at this place
pub record IsFirstTooLong (names : List (List ℕ)) (index : ℕ) : Type 0 where
  pub before : List (List ℕ)
  pub name : List ℕ
  pub after : List (List ℕ)
  pub splits : names ≡ before ++ (name ∷ after)
  pub place : index ≡ length before
  pub short : All IsShortName before
  pub long : 4096 < length name

-- no name is too long, and there are so many names
pub record AreShort (names : List (List ℕ)) (count : ℕ) : Type 0 where
  pub short : All IsShortName names
  pub count_is : count ≡ length names

-- What is refused of the names that are given: a name that is too long, or more than 512 names; or nothing.
abbrev pub RefusesNames : List (List ℕ) → Option AddRefusal → Type 0
RefusesNames names None = All IsShortName names × (length names ≤ 512)
RefusesNames names (Some (NameTooLong index)) = IsFirstTooLong names index
RefusesNames names (Some (TooManyFiles held more)) = AreShort names more × (held ≡ 0) × (512 < more)
RefusesNames names (Some _) = ⊥

-- And of so many more names in an archive that has `held`: they are above 1,048,576 together; or nothing.
abbrev pub RefusesMore : ℕ → ℕ → Option AddRefusal → Type 0
RefusesMore held more None = held + more ≤ 1048576
RefusesMore held more (Some refusal) = (refusal ≡ TooManyFiles held more) × (1048576 < held + more)
