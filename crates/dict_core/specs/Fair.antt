-- Which texts a pass may add to a book under the lock.
use Rattle.std.specs.Prelude.{◌≢◌, ℕ, ◌<◌, List}
use Rattle.logtype_text.specs.Fair.{IsFairType, IsFairWord}
use Rattle.dict_core.specs.declared.grows.TheConstants.{WORDS_FIRST}

-- a pass below the first number of Words adds log types, one above it adds Words, and one at it nothing
pub record IsFair (number : ℕ) (text : List ℕ) : Type 0 where
  pub type : number < WORDS_FIRST → IsFairType text
  pub word : WORDS_FIRST < number → IsFairWord text
  pub other : number ≢ WORDS_FIRST
