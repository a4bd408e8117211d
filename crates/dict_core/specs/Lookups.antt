-- Looking up many texts at once.
use Rattle.std.specs.Prelude.{◌≡◌, ◌≢◌, ℕ, List, length, slice_get, Some}
use Rattle.plain_list.specs.Texts.{IsNew}
use Rattle.dict_core.specs.declared.chains.TheConstants.{NO_NUMBER}

-- there is a number for each text, and the fact holds of both
pub record Fits (Fact : ℕ → List ℕ → Type 0) (numbers : List ℕ) (texts : List (List ℕ)) : Type 0 where
  pub long : length numbers ≡ length texts
  pub at : (k n : ℕ) (text : List ℕ) → slice_get numbers k ≡ Some n → slice_get texts k ≡ Some text → Fact n text

-- the number at which the text stands, or what is put for the number of a text that stands nowhere
pub record IsNumberOf (known : List (List ℕ)) (number : ℕ) (text : List ℕ) : Type 0 where
  pub here : number ≢ NO_NUMBER → slice_get known number ≡ Some text
  pub new : number ≡ NO_NUMBER → IsNew known text
