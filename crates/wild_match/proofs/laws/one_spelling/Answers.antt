use Rattle.wild_match.proofs.Spelling.{one-spelling}
use Rattle.wild_match.proofs.laws.one_spelling.Goals as goal

pub returns : goal.returns
returns c = one-spelling
