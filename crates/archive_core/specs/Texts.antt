-- Which texts a dictionary may hold, by its kind.
use Rattle.std.specs.Prelude.{ℕ, List}
use Rattle.logtype_text.specs.Fair.{IsFairType, IsFairWord}
use Rattle.row_codec.specs.declared.namer.Which.{Which}
use Rattle.row_codec.specs.declared.namer.Which.TheVariants.{Types, Words}

abbrev pub FairOf : Which → List ℕ → Type 0
FairOf Types = IsFairType
FairOf Words = IsFairWord
