-- What a contract reads of a lock, of its maker, and of a pass or a note.
use Rattle.std.specs.Prelude.{◌≡◌, ◌≢◌, ℕ, ◌+◌, ◌<◌, ◌≤◌, List, [], ◌++◌, length, Option, Some, slice_get, All}
use Rattle.atomic_table.specs.Seated.{TableId}
use Rattle.turn_lock.specs.declared.grows.Grows.{Ghosts}
use Rattle.turn_lock.specs.declared.board.About.{About}
use Rattle.turn_lock.specs.declared.lock.TurnLock.{TurnLock}
use Rattle.turn_lock.specs.declared.maker.Maker.{Maker}
use Rattle.turn_lock.specs.declared.pass.Pass.{Pass}
use Rattle.turn_lock.specs.declared.note.Note.{Note}
use Rattle.turn_lock.specs.History.{entries_of, Has, own, places, StandsIn}
use Rattle.turn_lock.specs.Seats.{IsFree, IsHeld}

-- the value has the fixed part
abbrev pub HasFixed : {V F : Type 0} → (V → F) → Option (About F) → V → Type 0
HasFixed {V} {F} fixed o y = (a : About F) → o ≡ Some a → fixed y ≡ a.fixed

module _ {V E F : Type 0} where
  abbrev pub lock_of : Pass V E F → TableId
  lock_of p = p.seat.table_id

  abbrev pub number_of : Pass V E F → ℕ
  number_of p = p.number

  -- the entries that the pass has seen: a beginning of the history
  abbrev pub seen : Pass V E F → List E
  seen p = entries_of p.seat.me.0.seen

  -- the places of the entries that the pass added, with the entries
  abbrev pub own_list : Pass V E F → List (ℕ × E)
  own_list p = own p.number p.seat.me.0.seen

  -- the first number of the lock, the count of entries at its opening, and its fixed part
  abbrev pub about : Pass V E F → Option (About F)
  about p = p.seat.me.0.about

  -- the pass is between two turns
  abbrev pub IsReady : Pass V E F → Type 0
  IsReady p = IsFree p.seat.me

  -- the pass has the turn
  abbrev pub HasTurn : Pass V E F → Type 0
  HasTurn p = IsHeld p.seat.me

  pub record IsStill (p q : Pass V E F) : Type 0 where
    pub lock : lock_of q ≡ lock_of p
    pub number : number_of q ≡ number_of p
    pub about_is : about q ≡ about p

  -- the pass has seen and added what it had, and has its turn where it had it
  pub record StaysAs (p q : Pass V E F) : Type 0 where
    pub still : IsStill p q
    pub seen_is : seen q ≡ seen p
    pub own_is : own_list q ≡ own_list p
    pub ready : IsReady p → IsReady q
    pub turn : HasTurn p → HasTurn q

  -- each entry past the opening may be added by a number of the lock, and what is new to the pass by another number than its own
  abbrev pub OthersMay : (ℕ → E → Type 0) → Pass V E F → List E → Type 0
  OthersMay may p es = (a : About F) (j : ℕ) (e : E) → about p ≡ Some a → a.start ≤ j → slice_get es j ≡ Some e
      → (n : ℕ) × (a.first ≤ n) × (n < a.first + 4294967296) × may n e × (length (seen p) ≤ j → n ≢ number_of p)

  -- the entries go on where the pass has seen them end, with some that it may add
  abbrev pub Adds : (ℕ → E → Type 0) → Pass V E F → List E → Type 0
  Adds may p es = (rest : List E) × (es ≡ seen p ++ rest) × All (may (number_of p)) rest

  -- the pass has become the one that added what follows the entries that it had seen
  abbrev pub OwnsMore : Pass V E F → Pass V E F → List E → Type 0
  OwnsMore p q es = (rest : List E) → es ≡ seen p ++ rest → own_list q ≡ own_list p ++ places (length (seen p)) rest

  abbrev pub lock_noted : Note V E F → TableId
  lock_noted n = n.seat.table_id

  abbrev pub noted : Note V E F → List E
  noted n = entries_of n.seat.me.0.seen

  -- what a note knows of its lock: the same as the pass that it is of
  abbrev pub about_noted : Note V E F → Option (About F)
  about_noted n = n.seat.me.0.about

  pub record IsNoteOf (p : Pass V E F) (n : Note V E F) : Type 0 where
    pub lock : lock_noted n ≡ lock_of p
    pub noted_is : noted n ≡ seen p
    pub about_is : about_noted n ≡ about p

  abbrev pub id_of : TurnLock V E F → TableId
  id_of l = l.table.shared.table_id

module _ {V E F : Type 0} {G : Ghosts V E F} where
  abbrev pub lock_by : Maker V E F G → TableId
  lock_by m = m.seat.table_id

  -- how many passes the maker made
  abbrev pub made_by : Maker V E F G → ℕ
  made_by m = m.made

  abbrev pub seen_by : Maker V E F G → List E
  seen_by m = entries_of m.seat.me.0.seen

  -- the numbers of the passes that it joined
  abbrev pub ended_by : Maker V E F G → List ℕ
  ended_by m = m.seat.me.0.ended

  -- what it knows of the own list of a number
  abbrev pub own_by : Maker V E F G → ℕ → List (ℕ × E)
  own_by m n = own n m.seat.me.0.seen

  abbrev pub about_by : Maker V E F G → Option (About F)
  about_by m = m.seat.me.0.about

  -- the maker of a lock that was just made of a value with these entries and this fixed part
  pub record IsOpening (m : Maker V E F G) (first : ℕ) (es : List E) (fixed : F) : Type 0 where
    pub seen_is : seen_by m ≡ es
    pub made : made_by m ≡ 0
    pub ended : ended_by m ≡ []
    pub about_is : about_by m ≡ Some (record { first = first; start = length es; fixed = fixed })

  -- the maker has seen what it had, and joined no other pass
  pub record IsStillBy (m n : Maker V E F G) : Type 0 where
    pub lock : lock_by n ≡ lock_by m
    pub about_is : about_by n ≡ about_by m
    pub ended : ended_by n ≡ ended_by m
    pub seen_is : seen_by n ≡ seen_by m
    pub own_is : (k : ℕ) → own_by n k ≡ own_by m k

  -- the number comes after those of the passes that the maker made
  abbrev pub IsNext : Maker V E F G → ℕ → Type 0
  IsNext m n = (a : About F) → about_by m ≡ Some a → n ≡ a.first + made_by m

  -- the maker's next pass: it has seen what the maker had, and added nothing
  pub record IsFreshOf (m : Maker V E F G) (p : Pass V E F) : Type 0 where
    pub lock : lock_of p ≡ lock_by m
    pub about_is : about p ≡ about_by m
    pub ready : IsReady p
    pub number : IsNext m (number_of p)
    pub seen_is : seen p ≡ seen_by m
    pub own_is : own_list p ≡ []

  -- a place stands in the own list of one number at most
  abbrev pub HasOneOwnerEach : Maker V E F G → Type 0
  HasOneOwnerEach m = (n k j : ℕ) (d e : E) → StandsIn (own_by m n) j d → StandsIn (own_by m k) j e → n ≡ k

  -- the maker joined every pass that it made
  abbrev pub HasJoinedAll : Maker V E F G → Type 0
  HasJoinedAll m = (a : About F) (n : ℕ) → about_by m ≡ Some a → a.first ≤ n → n < a.first + made_by m → Has (ended_by m) n

  -- each place past the opening stands in the own list of a joined pass, whose number may add its entry
  abbrev pub IsAllOwned : (ℕ → E → Type 0) → Maker V E F G → Type 0
  IsAllOwned may m = (a : About F) (j : ℕ) (e : E) → about_by m ≡ Some a → a.start ≤ j → slice_get (seen_by m) j ≡ Some e
      → (n : ℕ) × Has (ended_by m) n × may n e × StandsIn (own_by m n) j e
