-- What a book is: distinct texts with a limit, and what it is to name a text.
use Rattle.std.specs.Prelude.{◌≡◌, ◌⊎◌, ℕ, ◌<◌, List, [], ◌∷◌, ◌++◌, length, slice_get, Some}
use Rattle.plain_list.specs.Texts.{IsNew}

-- the texts of a book, each at its number, and how many there may be
pub record BookState : Type 0 where
  pub texts : List (List ℕ)
  pub limit : ℕ

-- the text at the number stands at a lower one too
pub record StandsTwice (texts : List (List ℕ)) (number : ℕ) : Type 0 where
  pub lower : ℕ
  pub text : List ℕ
  pub low : lower < number
  pub here : slice_get texts number ≡ Some text
  pub there : slice_get texts lower ≡ Some text

-- the text had this number, and the book stays; or it was new and below the limit, and is added last
abbrev pub Names : BookState → BookState → List ℕ → ℕ → Type 0
Names old new text number =
    ((slice_get old.texts number ≡ Some text) × (new ≡ old))
    ⊎ (IsNew old.texts text × (length old.texts < old.limit) × (number ≡ length old.texts)
    × (new.texts ≡ old.texts ++ text ∷ []) × (new.limit ≡ old.limit))
