-- What naming texts does to a namer, and how many turns it takes.
use Rattle.std.specs.Prelude.{◌≡◌, ℕ, ◌+◌, ◌≤◌, List, ◌++◌, length, Option, None, Some, All}
use Rattle.std.specs.List.{Contains}
use Rattle.plain_list.specs.Texts.{IsNew}
use Rattle.dict_lock.specs.Cached.{cache_of, pass_in}
use Rattle.dict_lock.specs.Shared.{GoesOn, OwnsBehind}
use Rattle.row_codec.specs.declared.namer.NameRefusal.{NameRefusal}
use Rattle.row_codec.specs.declared.namer.NameRefusal.TheVariants.{Full, OutOfMemory}
use Rattle.row_codec.specs.declared.namer.Which.{Which}
use Rattle.row_codec.specs.declared.namer.Which.TheVariants.{Types, Words}
use Rattle.disk_seal.specs.declared.namer.LockNamer.{LockNamer}

-- what a namer has of one book: the texts that its cache holds, and how many turns were taken
pub record Side : Type 0 where
  pub held : List (List ℕ)
  pub turns : ℕ

-- No more turns than texts that the cache holds since, where all were named; else one more at most. Where the book was full,
-- one of the texts is not held.
abbrev pub TookTurns : List (List ℕ) → Option NameRefusal → List (List ℕ) → Side → Side → Type 0
TookTurns texts None more a b = b.turns ≤ a.turns + length more
TookTurns texts (Some OutOfMemory) more a b = b.turns ≤ a.turns + length more + 1
TookTurns texts (Some (Full book count)) more a b =
    (b.turns ≤ a.turns + length more + 1) × ((t : List ℕ) × Contains texts t × IsNew b.held t)

-- the cache holds some of these texts more, behind the others, for so many turns
pub record Named (texts : List (List ℕ)) (refusal : Option NameRefusal) (a b : Side) : Type 0 where
  pub more : List (List ℕ)
  pub behind : b.held ≡ a.held ++ more
  pub among : All (Contains texts) more
  pub took : TookTurns texts refusal more a b

module _ {R A B C : Type 0} where
  abbrev pub types_side : LockNamer R A B C → Side
  types_side n = record { held = (cache_of n.types).texts; turns = n.turns.types }

  abbrev pub words_side : LockNamer R A B C → Side
  words_side n = record { held = (cache_of n.words).texts; turns = n.turns.words }

  -- Texts of one book were named, and its pass goes on and added only behind what it had seen. Nothing was done with the
  -- other book.
  abbrev pub NamesIn : Which → List (List ℕ) → Option NameRefusal → LockNamer R A B C → LockNamer R A B C → Type 0
  NamesIn Types texts refusal m n =
      Named texts refusal (types_side m) (types_side n) × (words_side n ≡ words_side m)
      × OwnsBehind (pass_in m.types) (pass_in n.types) × (pass_in n.words ≡ pass_in m.words)
      × GoesOn (pass_in m.types) (pass_in n.types)
  NamesIn Words texts refusal m n =
      Named texts refusal (words_side m) (words_side n) × (types_side n ≡ types_side m)
      × OwnsBehind (pass_in m.words) (pass_in n.words) × (pass_in n.types ≡ pass_in m.types)
      × GoesOn (pass_in m.words) (pass_in n.words)
