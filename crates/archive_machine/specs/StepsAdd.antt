-- Whether a worker may add a message more.
use Rattle.std.specs.Prelude.{◌≡◌, ℕ, ◌+◌, ◌<◌, false, length}
use Rattle.archive_meaning.specs.declared.TheConstants.{MAX_ROWS, MAX_MESSAGES}
use Rattle.archive_machine.specs.declared.state.Core.{Core}
use Rattle.archive_machine.specs.Machine.{count_of, is_closed, rows_of}

-- whatever the message is
pub record HasRoom (c : Core) (worker : ℕ) : Type 0 where
  pub rows : length (rows_of worker c.hands) < MAX_ROWS
  pub goes_on : is_closed worker c.journal ≡ false
  pub most : count_of worker c.journal + length (rows_of worker c.hands) < MAX_MESSAGES
