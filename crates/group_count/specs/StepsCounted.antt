-- How far a count of messages has come, and how it goes on.
use Rattle.std.specs.Prelude.{◌≡◌, ◌<◌, ◌≤◌, ◌+◌, ◌^◌, ℕ, List, [], ◌∷◌, ◌++◌, length}
use Rattle.column_store.specs.declared.row.Row.{Row}
use Rattle.row_codec.specs.Means.{AreCanonical}
use Rattle.search_walk.specs.declared.query.Judgement.{Judgement}
use Rattle.search_walk.specs.declared.query.Judgement.TheVariants.{Left, Tried, Found}
use Rattle.printed_lines.specs.Lines.{Placed}
use Rattle.search_meaning.specs.Scan.{AreFound, Asked}
use Rattle.search_walk.specs.Held.{Named}
use Rattle.group_count.specs.declared.counts.Counts.{Counts}
use Rattle.search_meaning.specs.Grouped.{AreExpanded, messages_of}

-- whatever archive the rows of the one table are of, nothing was counted of it in the other
abbrev pub IsLike : {T : Type 0} → (T → ℕ → List Row → Type 0) → T → T → Type 0
IsLike counted table other = (known : ℕ) (before : List Row) → counted table known before → counted other known []

-- the table, how many messages were found and how many expanded, and the ticks of those that were expanded
pub record Sofar (T : Type 0) : Type 0 where
  pub table : T
  pub matched : ℕ
  pub expanded : ℕ
  pub ticks : ℕ

abbrev pub sofar : {T : Type 0} → Counts T → ℕ → Sofar T
sofar counts ticks = record { table = counts.table; matched = counts.matched; expanded = counts.expanded; ticks = ticks }

-- a count of 64 bits went on by so much, where that fits
abbrev pub Counted : ℕ → ℕ → ℕ → Type 0
Counted old new more = old + more < 2 ^ 64 → new ≡ old + more

-- these rows were counted, and so many messages expanded
pub record Adds {T : Type 0} (counted : T → ℕ → List Row → Type 0) (rows : List Row) (more : ℕ) (a b : Sofar T) : Type 0 where
  pub table : (version : ℕ) (before : List Row) → counted a.table version before → counted b.table version (before ++ rows)
  pub matched : Counted a.matched b.matched (length rows)
  pub expanded : Counted a.expanded b.expanded more
  pub ticks : b.ticks ≡ a.ticks + more

-- the count has gone past these messages: these were found, which are kept as these rows, and these were expanded
pub record Passes {T : Type 0} (counted : T → ℕ → List Row → Type 0) (n : Named) (q : Asked) (all : List Placed)
    (a b : Sofar T) : Type 0 where
  pub found : List Placed
  pub expansions : List Placed
  pub rows : List Row
  pub are_found : AreFound n.version q all found
  pub are_expanded : AreExpanded n.version q all expansions
  pub are : AreCanonical n.version rows n.types n.words (messages_of found)
  pub adds : Adds counted rows (length expansions) a b

-- the count has stopped among these messages: no more were expanded
abbrev pub Stops : ℕ → Asked → List Placed → ℕ → ℕ → Type 0
Stops version q all old new = (expansions : List Placed) → AreExpanded version q all expansions → new ≤ old + length expansions

-- the rows that are counted of one whose message was written and judged, and how many messages are expanded
abbrev pub judged_rows : Judgement → Row → List Row
judged_rows Left row = []
judged_rows Tried row = []
judged_rows Found row = row ∷ []

abbrev pub judged_more : Judgement → ℕ
judged_more Left = 0
judged_more Tried = 1
judged_more Found = 1
