-- What a search prints: one filter over all messages of an archive.
use Rattle.std.specs.Prelude.{ℕ, ℤ, List}
use Rattle.std.specs.List.{flat_map}
use Rattle.column_store.specs.Range.{Holds}
use Rattle.column_store.specs.declared.range.Range.{Range}
use Rattle.time_patterns.specs.Stamps.{HasStamp}
use Rattle.wild_match.specs.Matches.{Match}
use Rattle.wild_match.specs.declared.pattern.Item.{Item}
use Rattle.query_plan.specs.Pieces.{wide}
use Rattle.printed_lines.specs.Lines.{Picks, Placed, numbered}
use Rattle.archive_meaning.specs.Held.{File}

-- what is asked for: messages that the pattern matches, within the range
pub record Asked : Type 0 where
  pub pattern : List Item
  pub range : Range

-- by its stamp a message of an archive of this version lies in the range
abbrev pub IsInRange : ℕ → Range → List ℕ → Type 0
IsInRange version range message = (k : ℕ) × (moment : ℤ) × (n : ℕ) × HasStamp version message k moment n × Holds range k moment

-- the message is printed
pub record IsFound (version : ℕ) (q : Asked) (message : List ℕ) : Type 0 where
  pub matched : Match q.pattern message
  pub inside : IsInRange version q.range message

-- the message is expanded: the wider pattern that the search is planned over matches it
pub record IsTried (version : ℕ) (q : Asked) (message : List ℕ) : Type 0 where
  pub matched : Match (wide q.pattern) message
  pub inside : IsInRange version q.range message

-- all messages of all files, by file and then by place
abbrev pub all_placed : List File → List Placed
all_placed files = flat_map (λ f. numbered f.name 1 f.messages) files

-- of these messages those are printed
abbrev pub AreFound : ℕ → Asked → List Placed → List Placed → Type 0
AreFound version q all found = Picks (λ p. IsFound version q p.message) all found

-- and those are expanded
abbrev pub AreTried : ℕ → Asked → List Placed → List Placed → Type 0
AreTried version q all tried = Picks (λ p. IsTried version q p.message) all tried
