-- What holds of whatever takes the pages of a walk.
use Rattle.std.specs.Prelude.{ℕ, ◌<◌, ◌+◌, ◌-◌, ◌^◌, List, [], ◌++◌}
use Rattle.segment_pages.specs.Paged.{Paged}
use Rattle.word_places.specs.Held.{HeldNames}
use Rattle.printed_lines.specs.Lines.{Picks, Placed}
use Rattle.search_meaning.specs.Scan.{Asked, IsFound, IsTried}
use Rattle.search_walk.specs.Held.{Named}
use Rattle.search_walk.specs.Ready.{Serves}
use Rattle.search_walk.specs.StepsScope.{Scope}

-- a page is left, and the numbers of the messages from here on, the first of which has this one, fit, with room for a page
pub record IsLeft (p : Paged) (number : ℕ) : Type 0 where
  pub page : p.pages.row < p.pages.rows
  pub fits : number + (p.pages.rows - p.pages.row) + 4096 < 2 ^ 64

module _ {W : Type 0} (reaches : W → W → Named → Asked → List Placed → Type 0) where
  -- past messages that are neither found nor tried it gets by no step
  abbrev pub PassesOver : Type 0
  PassesOver =
      (w : W) (n : Named) (q : Asked) (all : List Placed) → Picks (λ p. IsFound n.version q p.message) all []
      → Picks (λ p. IsTried n.version q p.message) all []
      → reaches w w n q all

  -- who got past messages and then past others got past both
  abbrev pub GoesOn : Type 0
  GoesOn = (a b c : W) (n : Named) (q : Asked) (xs ys : List Placed) → reaches a b n q xs → reaches b c n q ys
      → reaches a c n q (xs ++ ys)

  -- and who stopped behind them stopped among both
  abbrev pub StopsBehind : (W → W → Named → Asked → List Placed → Type 0) → Type 0
  StopsBehind halts = (a b c : W) (n : Named) (q : Asked) (xs ys : List Placed) → reaches a b n q xs → halts b c n q ys
      → halts a c n q (xs ++ ys)

  -- what was in hand stood for messages, so what is in hand does
  abbrev pub StandsOn : (W → Named → Type 0) → Type 0
  StandsOn stands = (a b : W) (n : Named) (q : Asked) (all : List Placed) → reaches a b n q all → stands a n → stands b n

module _ {W : Type 0} (halts : W → W → Named → Asked → List Placed → Type 0) where
  -- who did nothing has stopped
  abbrev pub StopsHere : Type 0
  StopsHere = (w : W) (n : Named) (q : Asked) → halts w w n q []

  -- who stopped among messages stopped among more
  abbrev pub StopsWithin : Type 0
  StopsWithin = (a b : W) (n : Named) (q : Asked) (xs ys : List Placed) → halts a b n q xs → halts a b n q (xs ++ ys)

-- the words that are held are those of the names
abbrev pub HasWords : {W : Type 0} → (W → Scope → HeldNames → Type 0) → Type 0
HasWords {W} served = (w : W) (s : Scope) (held : HeldNames) → served w s held → Serves s.names held
