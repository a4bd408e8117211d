-- How a namer came from one state to another by naming texts, one call after the other.
use Rattle.std.specs.Prelude.{◌≡◌, ℕ, zero, suc, List, Option}
use Rattle.row_codec.specs.declared.namer.NameRefusal.{NameRefusal}
use Rattle.row_codec.specs.declared.namer.Which.{Which}

module _ {N : Type 0} (naming : Which → List (List ℕ) → Option NameRefusal → N → N → Type 0) where
  -- by one call
  pub record HasNamedOnce (old new : N) : Type 0 where
    pub book : Which
    pub texts : List (List ℕ)
    pub refusal : Option NameRefusal
    pub named : naming book texts refusal old new

  -- by so many
  abbrev pub NamedTimes : ℕ → N → N → Type 0
  NamedTimes zero old new = new ≡ old
  NamedTimes (suc times) old new = (middle : N) × HasNamedOnce old middle × NamedTimes times middle new

  -- by some calls, or none
  pub record HasNamedMore (old new : N) : Type 0 where
    pub times : ℕ
    pub named : NamedTimes times old new
