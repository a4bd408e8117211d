-- A disk that is lent to the sources of an archive's files, one after the other, and what is known of it.
use Rattle.std.specs.Prelude.{◌≡◌, ◌≢◌, ℕ, List, [], ◌∷◌, Bool, Option, Some, None, IfSome}
use Rattle.log_seams.specs.Disk.{DiskState, Rests}
use Rattle.archive_open.specs.Shown.{StandsForNone}
use Rattle.archive_text.specs.declared.cause.TextCause.{TextCause}
use Rattle.archive_text.specs.Caused.{CountsBy}
use Rattle.archive_text.specs.State.{StoredState, TextState}

-- a disk that tells nothing
abbrev pub untold : DiskState
untold = record { seen = None; images = λ c. ⊥; clock = 0; since = λ t c. ⊥; ranges = None; faults = 0 }

-- which borrow of a disk is lent, the disk before that, and the log types of its archive
pub record LentDisk : Type 1 where
  pub name : ℕ
  pub disk : DiskState
  pub types : List (List ℕ)

-- a source over a file: its text, and why a text before it could not be had
pub record FileState (D : Type 0) : Type 0 where
  pub text : TextState D
  pub first : Option TextCause

-- what opens files: why a text could not be had first, and whether none is open
pub record OpenerState : Type 0 where
  pub cause : Option TextCause
  pub is_idle : Bool

-- Why a text could not be had first, where this was the cause of the ones before, and then that. That a text was read before
-- counts as want of memory.
abbrev pub first_of : Option TextCause → Option TextCause → Option TextCause
first_of (Some first) cause = Some first
first_of None None = None
first_of None (Some TextCause.DiskFault) = Some TextCause.DiskFault
first_of None (Some TextCause.Damaged) = Some TextCause.Damaged
first_of None (Some TextCause.OutOfMemory) = Some TextCause.OutOfMemory
first_of None (Some TextCause.Refused) = Some TextCause.OutOfMemory

-- a name that tells the cause
abbrev pub cause_name : Option TextCause → List ℕ
cause_name None = []
cause_name (Some TextCause.DiskFault) = 1 ∷ []
cause_name (Some TextCause.Damaged) = 2 ∷ []
cause_name (Some TextCause.OutOfMemory) = 3 ∷ []
cause_name (Some TextCause.Refused) = 4 ∷ []

-- where reading a text has failed, there is a cause
abbrev pub LeavesCause : Option TextCause → ℕ → Type 0
LeavesCause cause faults = faults ≢ 0 → cause ≢ None

-- the first cause stays
abbrev pub StaysFirst : Option TextCause → Option TextCause → Type 0
StaysFirst a b = a ≢ None → b ≡ a

module _ {D : Type 0} (state : D → DiskState) (lent : LentDisk) where
  -- the text is one of the disk's bytes, with the archive's log types
  pub record StandsOn (t : StoredState D) : Type 0 where
    pub seen : (state t.disk).seen ≡ lent.disk.seen
    pub types : t.types ≡ lent.types

  -- The disk was only read. Its count of faults rose where the cause is its fault, and is else as it was; the bytes stand for no
  -- journal where it is their damage.
  pub record IsRead (cause : Option TextCause) (name : ℕ) (disk : D) : Type 0 where
    pub name_is : name ≡ lent.name
    pub rests : Rests lent.disk (state disk)
    pub counts : CountsBy lent.disk.faults (state disk).faults cause
    pub damaged : cause ≡ Some TextCause.Damaged → IfSome lent.disk.seen StandsForNone
    pub own : cause ≢ Some TextCause.Refused

  -- a source was opened over it, which is not read where there was a cause before
  pub record IsOpen (first : Option TextCause) (t : TextState D) : Type 0 where
    pub read : IsRead first t.name t.opened
    pub types : t.types ≡ lent.types
    pub refused : first ≢ None → t.cause ≡ Some TextCause.Refused
