-- What becomes of a written message.
use Rattle.std.specs.Prelude.{◌≡◌, ◌+◌, ℕ, List, [], ◌∷◌, ◌++◌, take}
use Rattle.search_walk.specs.declared.query.Judgement.{Judgement}
use Rattle.search_walk.specs.declared.query.Judgement.TheVariants.{Left, Tried, Found}
use Rattle.search_engine.specs.declared.counts.Counts.{Counts}
use Rattle.search_engine.specs.Sofar.{Counted}

-- A message that was written goes, back to the first bytes, or stays with a newline behind it; it is counted.
pub record Leaves (kept : ℕ) (old new : List ℕ) (a b : Counts) (ticks later : ℕ) : Type 0 where
  pub gathered : new ≡ take kept old
  pub counts : b ≡ a
  pub ticked : later ≡ ticks

pub record Tries (kept : ℕ) (old new : List ℕ) (a b : Counts) (ticks later : ℕ) : Type 0 where
  pub gathered : new ≡ take kept old
  pub matched : b.matched ≡ a.matched
  pub expanded : Counted a.expanded b.expanded 1
  pub ticked : later ≡ ticks + 1

pub record Finds (old new : List ℕ) (a b : Counts) (ticks later : ℕ) : Type 0 where
  pub gathered : new ≡ old ++ 10 ∷ []
  pub matched : Counted a.matched b.matched 1
  pub expanded : Counted a.expanded b.expanded 1
  pub ticked : later ≡ ticks + 1

abbrev pub Keeps : Judgement → ℕ → List ℕ → List ℕ → Counts → Counts → ℕ → ℕ → Type 0
Keeps Left kept old new a b ticks later = Leaves kept old new a b ticks later
Keeps Tried kept old new a b ticks later = Tries kept old new a b ticks later
Keeps Found kept old new a b ticks later = Finds old new a b ticks later
