-- What steps on the way through the slots of a row make.
use Rattle.std.specs.Prelude.{◌≡◌, ℕ, List, [], ◌∷◌, ◌++◌}
use Rattle.std.specs.List.{Contains}
use mathlib.Core.List.{IsPrefix}
use Rattle.logtype_text.specs.declared.symbols.Kind.{Kind}
use Rattle.row_codec.specs.Numbers.{word_numbers}
use Rattle.row_rename.specs.Causes.{MayRenameWords}
use Rattle.row_rename.specs.Renamed.{AreRenamed, IsSlot}

-- the word of a slot was renamed and added behind those before it, and among the numbers where it is one
pub record PutsSlot (old new : List (List ℕ)) (kind : Kind) (word : ℕ) (out out_new used used_new : List ℕ) : Type 0 where
  pub renamed : ℕ
  pub is : IsSlot old new kind word renamed
  pub added : out_new ≡ out ++ renamed ∷ []
  pub numbered : used_new ≡ used ++ word_numbers (kind ∷ []) (renamed ∷ [])

-- The first slots have their words: with the words of the others, whatever further texts are known by
-- then, it is all of them.
pub record HasPut (old new : List (List ℕ)) (kinds rest : List Kind) (words left out used : List ℕ) : Type 0 where
  pub leads : (more : List (List ℕ)) (tail : List ℕ) → IsPrefix new more → AreRenamed old more rest left tail
      → AreRenamed old more kinds words (out ++ tail)
  pub numbers : (tail : List ℕ) → word_numbers kinds (out ++ tail) ≡ used ++ word_numbers rest tail
  pub may : MayRenameWords old kinds words → MayRenameWords old rest left
  pub within : (number : ℕ) → Contains (word_numbers rest left) number → Contains (word_numbers kinds words) number
