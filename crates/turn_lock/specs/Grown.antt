-- The rule of a lock, over plain data.
-- The words are the ticket that is drawn next, the ticket that is served, the length of the history, and
-- the number that the next pass gets. The one slot has the value, or nothing while a seat has its turn.
-- The history is the one list of entries that the value had since the lock was made.
-- It only grows, and each element that a pass added has the number of that pass.
use Rattle.std.specs.Prelude.{◌≡◌, ◌≢◌, ◌⊎◌, ℕ, ◌+◌, ◌<◌, ◌≤◌, Bool, true, false, List, [], ◌∷◌, length, Option, Some, None}
use mathlib.Core.Option.{some}
use mathlib.Core.Option as maybe
use mathlib.Core.List.{IsPrefix}
use lib.ListN.{get_elem?}
use Rattle.atomic_table.specs.Table.{State}
use Rattle.turn_lock.specs.declared.board.About.{About}
use Rattle.turn_lock.specs.declared.board.View.{View}
use Rattle.turn_lock.specs.declared.board.Opening.{Opening}
use Rattle.turn_lock.specs.History.{Mark, entries_of, unmarked, Has}

-- each seat's view has it
abbrev pub Each : {X : Type 0} → (X → Type 0) → List X → Type 0
Each {X} P views = (i : ℕ) (v : X) → get_elem? views i ≡ some v → P v

-- some seat's view has it
abbrev pub Someone : {X : Type 0} → (X → Type 0) → List X → Type 0
Someone {X} P views = (i : ℕ) × (v : X) × (get_elem? views i ≡ some v) × P v

-- a number is claimed by one seat at most
abbrev pub Apart : {X : Type 0} → (X → ℕ → Type 0) → List X → Type 0
Apart {X} C views = (i j : ℕ) (v w : X) (n : ℕ) → get_elem? views i ≡ some v → get_elem? views j ≡ some w → C v n → C w n → i ≡ j

-- what was added under the number n stands among the first k
abbrev pub Stands : {E : Type 0} → List (Mark E) → ℕ → ℕ → Type 0
Stands {E} h n k = (j : ℕ) (x : Mark E) → get_elem? h j ≡ some x → x.1 ≡ Some n → j < k

-- the element was added under a number of the lock, which may add it
abbrev pub Added : {E : Type 0} → ℕ → ℕ → (ℕ → E → Type 0) → Mark E → Type 0
Added first high may x = (n : ℕ) × (x.1 ≡ Some n) × (first ≤ n) × (n < high) × may n x.0

-- what is known of one seat's ticket
pub record Turning (serving next : ℕ) (ticket : Option ℕ) (inside : Bool) : Type 0 where
  pub between : (t : ℕ) → ticket ≡ Some t → (serving ≤ t) × (t < next)
  pub served : inside ≡ true → ticket ≡ Some serving

-- what one seat has seen: the beginning of the history, and all of it where it has the turn
pub record Seeing {E : Type 0} (h : List (Mark E)) (inside : Bool) (seen also : List (Mark E)) : Type 0 where
  pub front : IsPrefix seen h
  pub other : IsPrefix also h
  pub whole : inside ≡ true → seen ≡ h

-- what one seat knows of the lock
pub record Knowing {E F : Type 0} (base : About F) (about : Option (About F)) (seen : List (Mark E)) : Type 0 where
  pub is : (a : About F) → about ≡ Some a → (a ≡ base) × (base.start ≤ length seen)

-- the numbers that one seat has, and where what was added under them stands
pub record Owning {E : Type 0} (first count : ℕ) (h : List (Mark E))
    (number gone : Option ℕ) (ended : List ℕ) (made : Option ℕ)
    (inside : Bool) (seen also : List (Mark E)) : Type 0 where
  pub bound : (n : ℕ) → (number ≡ Some n) ⊎ ((gone ≡ Some n) ⊎ Has ended n) → (first ≤ n) × (n < count)
  pub alone : (n : ℕ) → number ≡ Some n → (gone ≡ Some n) ⊎ Has ended n → ⊥
  pub mine : (n : ℕ) → number ≡ Some n → Stands h n (length seen)
  pub theirs : (n : ℕ) → gone ≡ Some n → Stands h n (length also)
  pub past : (n : ℕ) → Has ended n → Stands h n (length seen)
  pub making : (m : ℕ) → made ≡ Some m → count ≡ first + m
  -- only the maker has the numbers of passes that were joined
  pub keeper : (n : ℕ) → (gone ≡ Some n) ⊎ Has ended n → made ≢ None
  pub worker : inside ≡ true → number ≢ None

abbrev pub holders : Option ℕ → ℕ
holders None = 0
holders (Some t) = 1

module _ {E F : Type 0} where
  abbrev pub Waits : View E F → ℕ → Type 0
  Waits v t = v.ticket ≡ Some t

  abbrev pub IsOut : View E F → Type 0
  IsOut v = v.inside ≡ false

  abbrev pub Makes : View E F → ℕ → Type 0
  Makes v m = v.made ≡ Some m

  -- the number is the seat's own, or of a pass that it joined
  abbrev pub Claims : View E F → ℕ → Type 0
  Claims v n = (v.number ≡ Some n) ⊎ ((v.gone ≡ Some n) ⊎ Has v.ended n)

  abbrev pub Owns : ℕ → ℕ → List (Mark E) → View E F → Type 0
  Owns first count h v = Owning first count h v.number v.gone v.ended v.made v.inside v.seen v.also

  -- how many seats have a ticket
  abbrev pub waiting : List (View E F) → ℕ
  waiting [] = 0
  waiting (v ∷ vs) = holders v.ticket + waiting vs

  -- the tickets from the one that is served on are with the seats, one each
  pub record Turns (serving next : ℕ) (views : List (View E F)) : Type 0 where
    pub turning : Each (λ v. Turning serving next v.ticket v.inside) views
    pub apart : Apart Waits views
    pub queue : serving + waiting views ≡ next

  -- what the seats have seen
  pub record Shown (base : About F) (history : List (Mark E)) (views : List (View E F)) : Type 0 where
    pub seeing : Each (λ v. Seeing history v.inside v.seen v.also) views
    pub knowing : Each (λ v. Knowing base v.about v.seen) views
    pub whole : Someone (λ v. (v.seen ≡ history) ⊎ (v.also ≡ history)) views

  -- the numbers that were dealt, each with one seat, and what was added under them
  pub record Dealt (may : ℕ → E → Type 0) (base : About F) (count : ℕ)
      (history : List (Mark E)) (views : List (View E F)) : Type 0 where
    pub low : base.first < 4294967296
    pub opened : base.start ≤ length history
    pub room : (base.first ≤ count) × (count ≤ base.first + 4294967296)
    pub owning : Each (Owns base.first count history) views
    pub claims : Apart Claims views
    pub makers : Apart Makes views
    pub claimed : (n : ℕ) → base.first ≤ n → n < count → Someone (λ v. Claims v n) views
    pub added : (j : ℕ) (x : Mark E) → base.start ≤ j → get_elem? history j ≡ some x → Added base.first count may x
    pub plain : (j : ℕ) (x : Mark E) → j < base.start → get_elem? history j ≡ some x → x.1 ≡ None

-- the value at home has the history as its entries, and the fixed part of the value that the lock was made with
abbrev pub AtHome : {V E F : Type 0} → (V → List E) → (V → F) → About F → List (Mark E) → List (maybe.Option (Option V)) → Type 0
AtHome {V} entries fixed base history homes =
    (y : V) × (get_elem? homes 0 ≡ some (some (Some y)))
    × (entries y ≡ entries_of history) × (fixed y ≡ base.fixed)

pub record Kept {V E F : Type 0} (entries : V → List E) (fixed : V → F) (may : ℕ → E → Type 0)
    (base : About F) (opening : List E) (s : State (Option V) (View E F)) : Type 0 where
  pub next : ℕ
  pub serving : ℕ
  pub history : List (Mark E)
  pub count : ℕ
  pub words : s.words ≡ next ∷ serving ∷ length history ∷ count ∷ []
  pub small : next < 18446744073709551616
  -- the history begins with the opening, whose entries have no number
  pub begins : IsPrefix (unmarked opening) history
  pub turns : Turns serving next s.views
  pub home : Each IsOut s.views → AtHome entries fixed base history s.homes
  pub shown : Shown base history s.views
  pub dealt : Dealt may base count history s.views

module _ {V E F : Type 0} (entries : V → List E) where
  -- what the lock is told when it is made
  abbrev pub base_of : (V → F) → Opening V → About F
  base_of fixed key = record { first = key.first; start = length (entries key.at.value); fixed = fixed key.at.value }

  -- the view of the maker's seat at the start
  abbrev pub starting : About F → V → View E F
  starting base y = record {
    ticket = None;
    inside = false;
    seen = unmarked (entries y);
    also = [];
    number = None;
    gone = None;
    ended = [];
    made = Some 0;
    about = Some base;
  }

  -- the rule of a lock that was told this when it was made
  abbrev pub KeepsRule : (V → F) → (ℕ → E → Type 0) → Opening V → State (Option V) (View E F) → Type 0
  KeepsRule fixed may key s = Kept entries fixed may (base_of fixed key) (entries key.at.value) s
