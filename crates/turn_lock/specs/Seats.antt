-- What a seat at the table may be: the maker's, that of a pass, or that of a note; free, in line, or with the turn.
use Rattle.std.specs.Prelude.{◌≡◌, ◌≢◌, ℕ, true, false, List, [], ◌∷◌, Option, Some, None}
use Rattle.atomic_table.specs.Table.{Me}
use Rattle.atomic_table.specs.Seated.{TableId}
use Rattle.turn_lock.specs.declared.board.View.{View}
use Rattle.turn_lock.specs.History.{entries_of, HasLearned}

-- four words and one slot
abbrev pub IsTable : TableId → Type 0
IsTable z = (z.words ≡ 4) × (z.slots ≡ 1)

-- the seat is at this table, which is a lock's
abbrev pub SitsAt : TableId → TableId → Type 0
SitsAt board seat = (seat ≡ board) × IsTable board

module _ {V E F : Type 0} where
  -- no ticket and no turn
  abbrev pub IsFree : Me (Option V) (View E F) → Type 0
  IsFree m = (m.0.ticket ≡ None) × (m.0.inside ≡ false) × (m.1 ≡ [])

  -- in line with this ticket
  abbrev pub IsInLine : Me (Option V) (View E F) → ℕ → Type 0
  IsInLine m t = (m.0.ticket ≡ Some t) × (m.0.inside ≡ false) × (m.1 ≡ []) × (m.0.number ≢ None)

  -- it has the turn, and the value is in its caller's hands
  abbrev pub IsHeld : Me (Option V) (View E F) → Type 0
  IsHeld m = (m.0.inside ≡ true) × (m.1 ≡ (0, None) ∷ [])

  abbrev pub IsReader : Me (Option V) (View E F) → Type 0
  IsReader m = (m.0.number ≡ None) × (m.0.gone ≡ None) × (m.0.ended ≡ []) × (m.0.made ≡ None) × (m.0.also ≡ [])

  abbrev pub IsWorker : Me (Option V) (View E F) → ℕ → Type 0
  IsWorker m n = (m.0.number ≡ Some n) × (m.0.gone ≡ None) × (m.0.ended ≡ []) × (m.0.made ≡ None) × (m.0.also ≡ [])

  abbrev pub IsMaker : Me (Option V) (View E F) → ℕ → Type 0
  IsMaker m made = (m.0.number ≡ None) × (m.0.gone ≡ None) × (m.0.made ≡ Some made) × (m.0.also ≡ [])

  abbrev pub entries_seen : Me (Option V) (View E F) → List E
  entries_seen m = entries_of m.0.seen

  -- the seat learned what the other had seen
  abbrev pub LearnsFrom : Me (Option V) (View E F) → Me (Option V) (View E F) → Me (Option V) (View E F) → Type 0
  LearnsFrom m other m' = HasLearned (entries_seen m) (entries_seen other) (entries_seen m')
