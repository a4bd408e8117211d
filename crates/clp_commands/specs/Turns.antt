-- Which commands may wait for a turn of a lock.
use Rattle.std.specs.Prelude.{◌≡◌, ℕ, List}
use Rattle.command_words.specs.Asked.{Asked, Asks, IsInRange, asked_by, to_bench, to_ingest, to_merge, to_upgrade}
use Rattle.command_words.specs.declared.command.Command.{Command}

-- what is asked for may wait for a turn of a lock
abbrev pub TakesTurns : Asked → Type 0
TakesTurns (to_ingest workers segment watch files) = Unit {0}
TakesTurns to_merge = Unit {0}
TakesTurns to_upgrade = Unit {0}
TakesTurns (to_bench number lines workers) = Unit {0}
TakesTurns _ = ⊥

-- the words ask for this command alone, which may wait for a turn
pub record AskForTurns (words : List (List ℕ)) (command : Command) : Type 0 where
  pub asked : Asks words (asked_by command)
  pub alone : (a : Asked) → Asks words a → asked_by command ≡ a
  pub in_range : IsInRange (asked_by command)
  pub turns : TakesTurns (asked_by command)
