-- What the text of a file shows, and a source over it.
use Rattle.std.specs.Prelude.{ℕ, List, Option}
use Rattle.archive_text.specs.declared.cause.TextCause.{TextCause}

-- the disk when the text was asked for; the log types that its rows name; the bytes of the text that are left, where they are
-- told; how many were given; and how often a read has failed
pub record StoredState (D : Type 0) : Type 0 where
  pub disk : D
  pub types : List (List ℕ)
  pub left : Option (List ℕ)
  pub given : ℕ
  pub faults : ℕ

-- the disk and the name of its borrow; the disk when the source was made; the log types that were cut; the bytes of the text
-- that are left, where they are told; how often a read has failed; and why
pub record TextState (D : Type 0) : Type 0 where
  pub disk : D
  pub name : ℕ
  pub opened : D
  pub types : List (List ℕ)
  pub left : Option (List ℕ)
  pub faults : ℕ
  pub cause : Option TextCause
