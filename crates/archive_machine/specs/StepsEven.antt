-- The state between two entries of a journal that the machine makes.
use Rattle.std.specs.Prelude.{◌≡◌, ℕ, [], length}
use Rattle.archive_meaning.specs.Held.{Held, messages_of, is_whole}
use Rattle.archive_machine.specs.declared.state.Core.{Core}
use Rattle.archive_machine.specs.Machine.{count_of, is_closed, rows_of}

-- all texts are saved, and nothing is in hand
pub record IsEven (held : Held) (c : Core) : Type 0 where
  pub same_types : c.types ≡ held.types
  pub same_words : c.words ≡ held.words
  pub all_types : c.saved_types ≡ length c.types
  pub all_words : c.saved_words ≡ length c.words
  pub empty : (worker : ℕ) → rows_of worker c.hands ≡ []
  pub counts : (file : ℕ) → count_of file c.journal ≡ length (messages_of file held.pieces)
  pub ends : (file : ℕ) → is_closed file c.journal ≡ is_whole file held.pieces
