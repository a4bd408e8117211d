-- What of a namer stays, whatever it names.
use Rattle.std.specs.Prelude.{◌≡◌, ℕ, [], Option, None}
use Rattle.atomic_table.specs.Seated.{TableId}
use Rattle.turn_lock.specs.declared.board.About.{About}
use Rattle.turn_lock.specs.Words.{about, lock_of, number_of}
use Rattle.dict_lock.specs.Shared.{BookPass}

-- the lock of a pass over a book, its number, and what its lock was told when it was made
pub record PassKey : Type 0 where
  pub lock : TableId
  pub number : ℕ
  pub about : Option (About ℕ)

abbrev pub key_of : BookPass → PassKey
key_of p = record { lock = lock_of p; number = number_of p; about = about p }

-- the pass has this key
pub record HasKey (key : PassKey) (p : BookPass) : Type 0 where
  pub lock : lock_of p ≡ key.lock
  pub number : number_of p ≡ key.number
  pub about_is : about p ≡ key.about

-- of no pass
abbrev pub no_key : PassKey
no_key = record {
  lock = record { words = 0; slots = 0; views_name = 0; atom = 0; block = 0; offset = 0; slot_names = [] };
  number = 0;
  about = None;
}
