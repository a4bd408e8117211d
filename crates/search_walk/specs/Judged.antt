-- What is told of a written message.
use Rattle.std.specs.Prelude.{ℕ, List}
use Rattle.wild_match.specs.Matches.{Match}
use Rattle.query_plan.specs.Pieces.{wide}
use Rattle.search_walk.specs.declared.query.Judgement.{Judgement}
use Rattle.search_walk.specs.declared.query.Judgement.TheVariants.{Left, Tried, Found}
use Rattle.search_meaning.specs.Scan.{Asked}

abbrev pub Judges : Asked → List ℕ → Judgement → Type 0
Judges q text Left = (¬ Match (wide q.pattern) text) × ¬ Match q.pattern text
Judges q text Tried = Match (wide q.pattern) text × ¬ Match q.pattern text
Judges q text Found = Match (wide q.pattern) text × Match q.pattern text
