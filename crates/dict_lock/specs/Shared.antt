-- What a pass over a shared book knows after a call.
use Rattle.std.specs.Prelude.{◌≡◌, ◌⊎◌, ℕ, ◌<◌, ◌≤◌, ◌^◌, List, [], ◌∷◌, ◌++◌, length, Some, All}
use mathlib.Core.List.{IsPrefix}
use Rattle.turn_lock.specs.declared.board.About.{About}
use Rattle.turn_lock.specs.declared.pass.Pass.{Pass}
use Rattle.turn_lock.specs.Words.{seen, own_list, about, IsReady, IsStill}
use Rattle.dict_core.specs.Books.{BookState}
use Rattle.plain_list.specs.Texts.{AreDistinct}

-- a pass over a book is plain data to a contract
abbrev pub BookPass : Type 0
BookPass = Pass BookState (List ℕ) ℕ

-- it is the same pass, between two turns, and what it had seen stands where it stood
pub record GoesOn (old new : BookPass) : Type 0 where
  pub still : IsStill old new
  pub ready : IsReady new
  pub seen_on : IsPrefix (seen old) (seen new)

-- what the pass has seen was once the whole book: distinct texts, and no more than the book's limit
pub record HasSeenBook (pass : BookPass) : Type 0 where
  pub distinct : AreDistinct (seen pass)
  pub few : length (seen pass) < 2 ^ 32
  pub within : (a : About ℕ) → about pass ≡ Some a → length (seen pass) ≤ a.fixed

-- the pass has seen so many texts, and that is the book's limit
pub record IsFull (pass : BookPass) (count : ℕ) : Type 0 where
  pub all : count ≡ length (seen pass)
  pub limit : (a : About ℕ) → about pass ≡ Some a → count ≡ a.fixed

-- the pass has added nothing, or this text alone, at this number
abbrev pub OwnsOneMore : BookPass → BookPass → ℕ → List ℕ → Type 0
OwnsOneMore old new number text =
    (own_list new ≡ own_list old) ⊎ (own_list new ≡ own_list old ++ (number, text) ∷ [])

-- what the pass added meanwhile stands behind what it had seen
pub record OwnsBehind (old new : BookPass) : Type 0 where
  pub more : List (ℕ × List ℕ)
  pub is : own_list new ≡ own_list old ++ more
  pub behind : All (λ x. length (seen old) ≤ x.0) more
