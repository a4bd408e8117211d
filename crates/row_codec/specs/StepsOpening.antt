-- The first bytes of what a row is written as, on the way through the text of its log type.
use Rattle.std.specs.Prelude.{◌≡◌, ℕ, List, take}
use Rattle.row_codec.specs.StepsBody.{Puts}

-- bytes were written as far as there was room, and what a text is written as begins with them and goes
-- on as the rest of it
pub record Fills (words : List (List ℕ)) (text row rest left old new : List ℕ) : Type 0 where
  pub whole : List ℕ
  pub puts : Puts words text row rest left old whole
  pub held : new ≡ take 32 whole
