use Rattle.wild_match.proofs.Spelling.{one-lone-backslash}
use Rattle.wild_match.proofs.laws.one_lone_backslash.Goals as goal

pub returns : goal.returns
returns c = one-lone-backslash
