-- Which texts may go to a dictionary.
use Rattle.std.specs.Prelude.{ℕ, ◌≤◌, List, length}
use Rattle.logtype_text.specs.declared.TheConstants.{MAX_TYPE_LEN, MAX_WORD_LEN}
use Rattle.logtype_text.specs.TypeText.{IsGood}

-- a text of a log type, within its limit
pub record IsFairType (text : List ℕ) : Type 0 where
  pub good : IsGood text
  pub short : length text ≤ MAX_TYPE_LEN

-- a word of one or more bytes, within its limit
pub record IsFairWord (text : List ℕ) : Type 0 where
  pub some : 1 ≤ length text
  pub short : length text ≤ MAX_WORD_LEN
