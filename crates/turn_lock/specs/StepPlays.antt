-- What each step does to the view of the seat that makes it, and what the step tells.
use Rattle.std.specs.Prelude.{◌≡◌, ◌≢◌, ◌⊎◌, ℕ, ◌+◌, ◌≤◌, true, false, List, [], ◌∷◌}
use Rattle.std.specs.Prelude.{◌++◌, map, length, drop, Option, Some, None, All}
use mathlib.Core.Option.{some}
use mathlib.Core.List.{IsPrefix}
use lib.ListN.{get_elem?}
use Rattle.atomic_table.specs.Table.{Me, Step}
use Rattle.turn_lock.specs.declared.board.About.{About}
use Rattle.turn_lock.specs.declared.board.View.{View}
use Rattle.turn_lock.specs.History.{Mark, entries_of, Has}
use Rattle.turn_lock.specs.Grown.{Stands, Added}

-- of two beginnings of one list the longer
abbrev pub longer : {A : Type 0} → List A → List A → List A
longer [] ys = ys
longer (x ∷ xs) [] = x ∷ xs
longer (x ∷ xs) (y ∷ ys) = x ∷ longer xs ys

abbrev pub more : Option ℕ → List ℕ → List ℕ
more None ns = ns
more (Some n) ns = n ∷ ns

abbrev pub one_more : Option ℕ → Option ℕ
one_more None = None
one_more (Some n) = Some (n + 1)

-- each entry with the number of the pass that adds it
abbrev pub marked : {E : Type 0} → Option ℕ → List E → List (Mark E)
marked number es = map (λ e. (e, number)) es

module _ {E F : Type 0} where
  abbrev pub waits : View E F → ℕ → View E F
  waits v t = record v { ticket = Some t }

  abbrev pub enters : View E F → List (Mark E) → View E F
  enters v h = record v { inside = true; seen = h }

  abbrev pub publishes : List E → View E F → View E F
  publishes es v = record v { seen = v.seen ++ marked v.number (drop (length v.seen) es) }

  abbrev pub goes : View E F → View E F
  goes v = record v { ticket = None; inside = false }

  abbrev pub learns : View E F → View E F
  learns v = record v { seen = longer v.seen v.also; also = []; gone = None; ended = more v.gone v.ended }

  abbrev pub numbers : ℕ → View E F → View E F
  numbers n v = record v { number = Some n; made = one_more v.made }

  -- a new seat, which has seen the same and has the number o
  abbrev pub fresh : Option ℕ → View E F → View E F
  fresh o v = record {
    ticket = None;
    inside = false;
    seen = v.seen;
    also = [];
    number = o;
    gone = None;
    ended = [];
    made = None;
    about = v.about;
  }

  abbrev pub unnumbered : View E F → View E F
  unnumbered v = record v { number = None }

  abbrev pub joined : View E F → View E F → View E F
  joined v w = record v { also = w.seen; gone = w.number }

  -- v is out of its turn, and may take in w; a number goes to the maker alone
  pub record TakesIn (v w : View E F) : Type 0 where
    pub out : v.inside ≡ false
    pub bare : (v.gone ≡ None) × (v.also ≡ [])
    pub empty : (w.gone ≡ None) × (w.ended ≡ []) × (w.also ≡ [])
    pub kept : w.number ≢ None → v.made ≢ None

  abbrev pub spent : View E F
  spent = record {
    ticket = None;
    inside = false;
    seen = [];
    also = [];
    number = None;
    gone = None;
    ended = [];
    made = None;
    about = None;
  }

  -- the entries go on where the seat's list ends, with some that its number may add
  abbrev pub MayAdd : (ℕ → E → Type 0) → List E → View E F → Type 0
  MayAdd may es v = (rest : List E) × (es ≡ entries_of v.seen ++ rest) × ((n : ℕ) → v.number ≡ Some n → All (may n) rest)

module _ {V E F : Type 0} where
  -- the value has the lock's fixed part
  abbrev pub Agrees : (V → F) → View E F → V → Type 0
  Agrees fixed v y = (a : About F) → v.about ≡ Some a → fixed y ≡ a.fixed

  -- what the seat knows as its turn begins, with the history h and the value y
  abbrev pub Entered : (V → List E) → (V → F) → (ℕ → E → Type 0) → View E F → List (Mark E) → V → Type 0
  Entered entries fixed may v h y = IsPrefix v.seen h × (entries y ≡ entries_of h) × Agrees fixed v y
      × ((n : ℕ) → v.number ≡ Some n → Stands h n (length v.seen))
      × ((a : About F) (j : ℕ) (x : Mark E)
      → v.about ≡ Some a → a.start ≤ j
      → get_elem? h j ≡ some x
      → Added a.first (a.first + 4294967296) may x)

  abbrev pub Came : (V → List E) → (V → F) → (ℕ → E → Type 0) → Me (Option V) (View E F) → Me (Option V) (View E F) → Type 0
  Came entries fixed may m m' =
      (y : V) × (h : List (Mark E))
      × (m' ≡ (enters m.0 h, (0, Some y) ∷ m.1))
      × Entered entries fixed may m.0 h y

  -- both lists that were seen begin the one that is seen now, and what was added under a number of the seat stands where it stood
  abbrev pub Learned : Me (Option V) (View E F) → Me (Option V) (View E F) → Type 0
  Learned m m' = (m' ≡ (learns m.0, m.1)) × IsPrefix m.0.seen m'.0.seen × IsPrefix m.0.also m'.0.seen
      × ((k : ℕ) → (m.0.number ≡ Some k) ⊎ Has m.0.ended k → Stands m'.0.seen k (length m.0.seen))
      × ((k : ℕ) → m.0.gone ≡ Some k → Stands m'.0.seen k (length m.0.also))

  abbrev pub drew : Step (Option V) → Me (Option V) (View E F) → ℕ → Me (Option V) (View E F) → Type 0
  drew st m n m' = (n ≡ st.first → m' ≡ (waits m.0 n, m.1)) × (n ≢ st.first → m' ≡ m)

  abbrev pub looked : (V → List E) → (V → F) → (ℕ → E → Type 0)
      → Step (Option V) → Me (Option V) (View E F)
      → ℕ → Me (Option V) (View E F) → Type 0
  looked entries fixed may st m n m' = (t : ℕ) → m.0.ticket ≡ Some t → (n ≡ t → Came entries fixed may m m') × (n ≢ t → m' ≡ m)

  abbrev pub published : List E → Step (Option V) → Me (Option V) (View E F) → ℕ → Me (Option V) (View E F) → Type 0
  published es st m n m' = m' ≡ (publishes es m.0, m.1)

  abbrev pub served : Step (Option V) → Me (Option V) (View E F) → ℕ → Me (Option V) (View E F) → Type 0
  served st m n m' = m' ≡ (goes m.0, [])

  abbrev pub learned : Step (Option V) → Me (Option V) (View E F) → ℕ → Me (Option V) (View E F) → Type 0
  learned st m n m' = Learned m m'

  -- the number is the lock's next, and nothing that was seen has it
  abbrev pub numbered : Step (Option V) → Me (Option V) (View E F) → ℕ → Me (Option V) (View E F) → Type 0
  numbered st m n m' =
      (m' ≡ (numbers n m.0, m.1))
      × ((a : About F) (k : ℕ) → m.0.about ≡ Some a → m.0.made ≡ Some k
      → n ≡ a.first + k)
      × ((j : ℕ) (x : Mark E) → get_elem? m.0.seen j ≡ some x → x.1 ≢ Some n)
