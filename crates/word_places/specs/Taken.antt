-- What holds of whatever takes texts one after the other.
use Rattle.std.specs.Prelude.{◌≡◌, ℕ, List, [], ◌++◌, length}
use Rattle.std.specs.List.{flat_map}
use Rattle.record_format.specs.Lists.{AreTexts, text_bytes}

module _ {W : Type 0} (took : W → List (List ℕ) → W → Type 0) where
  -- who did nothing took none
  abbrev pub TakesNone : Type 0
  TakesNone = (w : W) → took w [] w

  -- who took texts and then others took both
  abbrev pub TakesBoth : Type 0
  TakesBoth = (a b c : W) (xs ys : List (List ℕ)) → took a xs b → took b ys c → took a (xs ++ ys) c

-- so many texts were taken, and the bytes spell them one behind the other; who takes is then this one
pub record Took {W : Type 0} (took : List (List ℕ) → W → Type 0) (count : ℕ) (bytes : List ℕ) (new : W) : Type 0 where
  pub texts : List (List ℕ)
  pub are : AreTexts texts
  pub count_is : length texts ≡ count
  pub spelled : bytes ≡ flat_map text_bytes texts
  pub taken : took texts new
