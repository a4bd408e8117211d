-- How far a naming has come, for its proof alone.
use Rattle.std.specs.Prelude.{◌≡◌, ◌≢◌, ℕ, ◌≤◌, List, [], ◌++◌, length, Some, slice_get, All}
use Rattle.std.specs.List.{Contains}
use Rattle.dict_core.specs.Books.{BookState}
use Rattle.plain_list.specs.Texts.{AreDistinct, IsNew}
use Rattle.turn_lock.specs.Words.{seen}
use Rattle.dict_lock.specs.Cache.{CacheState, IsEven, Keeps, Remembers, HoldsAll}
use Rattle.dict_lock.specs.Shared.{BookPass, IsFull}
use Rattle.dict_lock.specs.declared.naming.TheConstants.{UNKNOWN}

-- a number for each text, or a mark
pub record IsMarked (Named : List ℕ → ℕ → Type 0) (numbers : List ℕ) (texts : List (List ℕ)) : Type 0 where
  pub long : length numbers ≡ length texts
  pub known : (k n : ℕ) (text : List ℕ) → slice_get numbers k ≡ Some n → slice_get texts k ≡ Some text
      → n ≢ UNKNOWN → Named text n

-- none of the numbers is a mark
abbrev pub HasNoMark : List ℕ → Type 0
HasNoMark numbers = (k : ℕ) → slice_get numbers k ≢ Some UNKNOWN

-- the cache holds the text with this number: where it is no mark, and where there was none before
pub record IsHeldAs (NoMark : Type 0) (cache : CacheState) (number : ℕ) (text : List ℕ) : Type 0 where
  pub known : number ≢ UNKNOWN → Remembers cache text number
  pub all : NoMark → Remembers cache text number

-- these are the numbers that the cache holds the texts with
abbrev pub AreHeld : CacheState → List ℕ → List (List ℕ) → Type 0
AreHeld cache numbers texts =
    (k n : ℕ) (text : List ℕ) → slice_get numbers k ≡ Some n → slice_get texts k ≡ Some text → Remembers cache text n

-- the cache holds all of the texts, with these numbers
pub record FoundAll (cache : CacheState) (numbers : List ℕ) (texts : List (List ℕ)) : Type 0 where
  pub held : AreHeld cache numbers texts
  pub all : HoldsAll cache texts

-- the numbers are those of the first of the texts
pub record NamesFront (seen : List (List ℕ)) (numbers : List ℕ) (texts : List (List ℕ)) : Type 0 where
  pub front : length numbers ≤ length texts
  pub at : (k n : ℕ) (text : List ℕ) → slice_get numbers k ≡ Some n → slice_get texts k ≡ Some text → slice_get seen n ≡ Some text

-- some of these texts were added to the book
pub record AddsAmong (old new : BookState) (texts : List (List ℕ)) : Type 0 where
  pub rest : List (List ℕ)
  pub joins : new.texts ≡ old.texts ++ rest
  pub among : All (Contains texts) rest
  pub limit : new.limit ≡ old.limit

-- the cache holds some of these texts more, behind the others
pub record Grows (old new : CacheState) (texts : List (List ℕ)) : Type 0 where
  pub more : List (List ℕ)
  pub behind : new.texts ≡ old.texts ++ more
  pub among : All (Contains texts) more
  pub same : more ≡ [] → new ≡ old
  pub distinct : AreDistinct old.texts → AreDistinct new.texts
  pub even : IsEven old → IsEven new

-- a cache goes on knowing all that it knew, and what it learned is among the texts
pub record KnowsMore (old new : CacheState) (texts : List (List ℕ)) : Type 0 where
  pub kept : Keeps old new
  pub grows : Grows old new texts

-- the text at the place is not in the book, which is full
pub record IsRefusedAt (book : BookState) (texts : List (List ℕ)) (place count : ℕ) : Type 0 where
  pub text : List ℕ
  pub given : slice_get texts place ≡ Some text
  pub absent : IsNew book.texts text
  pub all : count ≡ length book.texts
  pub most : count ≡ book.limit

-- the same of what a pass has seen
pub record IsRefusedTo (pass : BookPass) (texts : List (List ℕ)) (place count : ℕ) : Type 0 where
  pub text : List ℕ
  pub given : slice_get texts place ≡ Some text
  pub absent : IsNew (seen pass) text
  pub full : IsFull pass count
