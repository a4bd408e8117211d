-- Pages that were read and wait to be searched, and how far a search has come that has some.
use Rattle.std.specs.Prelude.{◌≡◌, ◌↔◌, ℕ, List, [], ◌∷◌, ◌++◌, map, Option, Result, OnOk, IsErrOf, All}
use Rattle.column_store.specs.declared.row.Row.{Row}
use Rattle.subquery_filter.specs.declared.verdicts.Verdict.{Verdict}
use Rattle.search_engine.specs.declared.refusal.PrintRefusal.{PrintRefusal}
use Rattle.search_engine.specs.declared.counts.Counts.{Counts}
use Rattle.printed_lines.specs.Lines.{Picks, Placed, numbered}
use Rattle.search_meaning.specs.Scan.{Asked, IsFound, IsTried}
use Rattle.search_engine.specs.Sofar.{Passes, Sofar, Stops, sofar}
use Rattle.search_walk.specs.Held.{AreRowsOf, Named}

-- ---- pages

-- the rows of a page and what was decided of each, the name of its file, and the number of its first message
pub record Page : Type 0 where
  pub name : List ℕ
  pub number : ℕ
  pub rows : List Row
  pub verdicts : List Verdict

abbrev pub page : List ℕ → ℕ → List Row → List Verdict → Page
page name number rows verdicts = record { name = name; number = number; rows = rows; verdicts = verdicts }

-- the rows of the pages are the encodings of these messages
abbrev pub WaitFor : Named → List Page → List Placed → Type 0
WaitFor n [] all = all ≡ []
WaitFor n (p ∷ pages) all =
    (messages : List (List ℕ)) × (others : List Placed) × AreRowsOf n p.rows messages × WaitFor n pages others
    × (all ≡ numbered p.name p.number messages ++ others)

-- the pages stand for messages
abbrev pub StandFor : Named → List Page → Type 0
StandFor n pages = (all : List Placed) × WaitFor n pages all

-- P holds where the pages stand for messages
abbrev pub Blames : Named → List Page → Type 0 → Type 0
Blames n pages P = (early : List Placed) → WaitFor n pages early → P

-- ---- a page that was searched

abbrev pub no_counts : Counts
no_counts = record { matched = 0; expanded = 0 }

-- a page, the lines and the counts that its search left, and whether it went through
pub record Slotted : Type 0 where
  pub page : Page
  pub text : List ℕ
  pub counts : Counts
  pub answer : Result (Unit {0}) PrintRefusal

-- from nothing on the search of the page gathered this text, and counted and expanded so many
abbrev pub PrintsPage : Named → Asked → Page → List ℕ → Counts → Type 0
PrintsPage n q p text counts =
    (w : Option (List ℕ)) (messages : List (List ℕ)) → AreRowsOf n p.rows messages
    → Passes n.version q (numbered p.name p.number messages) (sofar w [] no_counts 0) (sofar w text counts counts.expanded)

pub record IsWorked (n : Named) (q : Asked) (s : Slotted) : Type 0 where
  pub done : OnOk s.answer (PrintsPage n q s.page s.text s.counts)
  pub damaged : IsErrOf s.answer PrintRefusal.Damaged → (messages : List (List ℕ)) → ¬ AreRowsOf n s.page.rows messages

abbrev pub pages_of : List Slotted → List Page
pages_of slots = map (λ s. s.page) slots

-- P holds of the messages of a page that was searched
abbrev pub OfWorked : Slotted → (Named → Asked → List Placed → Type 0) → Type 0
OfWorked s P =
    (n : Named) (q : Asked) (messages : List (List ℕ)) → IsWorked n q s → AreRowsOf n s.page.rows messages
    → P n q (numbered s.page.name s.page.number messages)

-- P holds of the messages of pages that were searched
abbrev pub OfAllWorked : List Slotted → (Named → Asked → List Placed → Type 0) → Type 0
OfAllWorked slots P = (n : Named) (q : Asked) (all : List Placed) → All (IsWorked n q) slots → WaitFor n (pages_of slots) all
    → P n q all

-- ---- a search with pages that wait

-- what is gathered for the sink, the counts, and the pages that wait
pub record Pending : Type 0 where
  pub gathered : List ℕ
  pub counts : Counts
  pub pages : List Page

abbrev pub nothing_pending : Pending
nothing_pending = record { gathered = []; counts = no_counts; pages = [] }

-- what the sink has taken, what is at hand, and the ticks of expanded messages
pub record State : Type 0 where
  pub written : Option (List ℕ)
  pub pending : Pending
  pub ticks : ℕ

abbrev pub state : Option (List ℕ) → Pending → ℕ → State
state written pending ticks = record { written = written; pending = pending; ticks = ticks }

abbrev pub sofar_of : State → Sofar
sofar_of s = sofar s.written s.pending.gathered s.pending.counts s.ticks

-- of both lists the same is found, and the same is expanded
pub record Same (version : ℕ) (q : Asked) (xs ys : List Placed) : Type 0 where
  pub found : (picked : List Placed) → Picks (λ p. IsFound version q p.message) xs picked
      ↔ Picks (λ p. IsFound version q p.message) ys picked
  pub tried : (picked : List Placed) → Picks (λ p. IsTried version q p.message) xs picked
      ↔ Picks (λ p. IsTried version q p.message) ys picked

-- the search has gone past the first of these messages, and the others wait, but for such as are neither found nor expanded
pub record Went (n : Named) (q : Asked) (all : List Placed) (a b : State) : Type 0 where
  pub done : List Placed
  pub later : List Placed
  pub waits : WaitFor n b.pending.pages later
  pub same : Same n.version q all (done ++ later)
  pub passes : Passes n.version q done (sofar_of a) (sofar_of b)

-- the search has read as far as these messages, behind those that waited
abbrev pub Reaches : Named → Asked → List Placed → State → State → Type 0
Reaches n q all a b = (early : List Placed) → WaitFor n a.pending.pages early → Went n q (early ++ all) a b

-- the search has stopped among the messages that waited and these
abbrev pub Halts : Named → Asked → List Placed → State → Option (List ℕ) → ℕ → Type 0
Halts n q all a written ticks = (early : List Placed) → WaitFor n a.pending.pages early
    → Stops n.version q (early ++ all) (sofar_of a) written ticks
