use Rattle.wild_match.proofs.Spelling.{spelled-or-lone, never-both}
use Rattle.wild_match.proofs.laws.spelled_or_lone.Goals as goal

pub returns-clause-either : goal.returns-clause-either
returns-clause-either c = spelled-or-lone

pub returns-clause-never_both : goal.returns-clause-never_both
returns-clause-never_both c = never-both
