-- What becomes of a pass that names texts, and of its cache.
use Rattle.std.specs.Prelude.{◌≡◌, ℕ, ◌+◌, ◌≤◌, List, ◌++◌, length, Some, slice_get, All}
use Rattle.std.specs.List.{AllZip, Contains}
use mathlib.Core.List.{IsPrefix}
use Rattle.turn_lock.specs.History.{places}
use Rattle.turn_lock.specs.Words.{seen, own_list}
use Rattle.plain_list.specs.Texts.{IsNew}
use Rattle.dict_lock.specs.Cache.{CacheState, HoldsFront}
use Rattle.dict_lock.specs.Shared.{BookPass, GoesOn, IsFull}

-- these are the numbers of the texts, in order
abbrev pub AreNumbers : List (List ℕ) → List ℕ → List (List ℕ) → Type 0
AreNumbers known numbers texts = AllZip (λ number text. slice_get known number ≡ Some text) numbers texts

-- The pass goes on. The book was `before` at the take, or what the pass had seen where
-- no turn was taken, and the pass has added none but some of these texts behind it.
pub record NamesMore (old new : BookPass) (texts : List (List ℕ)) : Type 0 where
  pub goes_on : GoesOn old new
  pub before : List (List ℕ)
  pub rest : List (List ℕ)
  pub front : IsPrefix (seen old) before
  pub joins : seen new ≡ before ++ rest
  pub among : All (Contains texts) rest
  pub own : own_list new ≡ own_list old ++ places (length before) rest

-- one of these texts is not in the book, which is full; the cache holds those before it
pub record MeetsLimit (pass : BookPass) (cache : CacheState) (texts : List (List ℕ)) (count : ℕ) : Type 0 where
  pub at : ℕ
  pub text : List ℕ
  pub given : slice_get texts at ≡ Some text
  pub absent : IsNew (seen pass) text
  pub before : HoldsFront cache texts at
  pub full : IsFull pass count

-- The cache holds some of these texts more, behind the others. Where
-- there was an answer, there were no more turns than such texts.
pub record Learns (answered : Type 0) (old new : CacheState) (texts : List (List ℕ)) (turns now : ℕ) : Type 0 where
  pub more : List (List ℕ)
  pub behind : new.texts ≡ old.texts ++ more
  pub among : All (Contains texts) more
  pub few : answered → now ≤ turns + length more

-- no turn where all is known; else one, or none where there was no answer
pub record TakesOneTurn (known answered : Type 0) (old new : ℕ) : Type 0 where
  pub none : known → new ≡ old
  pub once : new ≤ old + 1
  pub one : answered → ¬ known → new ≡ old + 1
