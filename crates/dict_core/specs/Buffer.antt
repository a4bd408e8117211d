-- Texts in one buffer, cut at ends.
use Rattle.std.specs.Prelude.{◌≡◌, ℕ, zero, suc, ◌≤◌, List, [], ◌∷◌, slice_index, slice_range}

-- the texts of the buffer from the start on, one up to each end
abbrev pub texts_from : List ℕ → ℕ → List ℕ → List (List ℕ)
texts_from bytes start [] = []
texts_from bytes start (end ∷ ends) = slice_range bytes start end ∷ texts_from bytes end ends

-- the ends rise from the start on, and the last of them is `last`
abbrev pub Rise : ℕ → List ℕ → ℕ → Type 0
Rise start [] last = start ≡ last
Rise start (end ∷ ends) last = (start ≤ end) × Rise end ends last

-- where the text at a number begins: at the end of the one before it, the first at `start`
abbrev pub start_from : ℕ → List ℕ → ℕ → ℕ
start_from start ends zero = start
start_from start ends (suc number) = slice_index ends number

abbrev pub start_at : List ℕ → ℕ → ℕ
start_at ends number = start_from 0 ends number

-- the text at a number
abbrev pub text_at : List ℕ → List ℕ → ℕ → List ℕ
text_at bytes ends number = slice_range bytes (start_at ends number) (slice_index ends number)
