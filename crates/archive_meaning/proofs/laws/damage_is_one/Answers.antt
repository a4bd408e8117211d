use Rattle.archive_meaning.proofs.UniqueLemmas.{damage_is_behind, journals_are_whole, one_damage}
use Rattle.archive_meaning.proofs.laws.damage_is_one.Goals as goal

pub returns-clause-one : goal.returns-clause-one
returns-clause-one c = one_damage

pub returns-clause-whole : goal.returns-clause-whole
returns-clause-whole c = journals_are_whole

pub returns-clause-behind : goal.returns-clause-behind
returns-clause-behind c = damage_is_behind
