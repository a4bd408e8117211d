-- What a worker's namer has named.
use Rattle.std.specs.Prelude.{◌≡◌, ℕ, List}
use Rattle.row_codec.specs.Messages.{IsTypeOf, IsWordOf}
use Rattle.row_codec.specs.Naming.{HasGrown}
use Rattle.dict_lock.specs.Shared.{BookPass, GoesOn, OwnsBehind}
use Rattle.disk_seal.specs.declared.namer.LockNamer.{LockNamer}
use Rattle.disk_seal.specs.Known.{known_of}
use Rattle.ingest_workers.specs.Namer.{types_pass, words_pass}

-- the pass has seen more, and all that it added meanwhile is such a text, behind what it had seen
pub record AddsOnly (P : List ℕ → Type 0) (p q : BookPass) : Type 0 where
  pub goes : GoesOn p q
  pub grown : HasGrown P (known_of p) (known_of q)
  pub own : OwnsBehind p q

module _ {R A B C : Type 0} where
  -- what both passes of the namer added meanwhile are texts of the encodings of such messages
  pub record HasNamed (P : List ℕ → Type 0) (m n : LockNamer R A B C) : Type 0 where
    pub version : n.version ≡ m.version
    pub types : AddsOnly (λ t. (x : List ℕ) × P x × IsTypeOf m.version x t) (types_pass m) (types_pass n)
    pub words : AddsOnly (λ t. (x : List ℕ) × P x × IsWordOf m.version x t) (words_pass m) (words_pass n)
