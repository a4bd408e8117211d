-- A window over the bytes of a source.
use Rattle.std.specs.Prelude.{ℕ, List}

-- what a window holds, and how much it can hold
pub record WindowState : Type 0 where
  pub held : List ℕ
  pub size : ℕ
