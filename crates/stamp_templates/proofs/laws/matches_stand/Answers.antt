use Rattle.stamp_templates.proofs.PlaceLemmas.{matches_stand}
use Rattle.stamp_templates.proofs.laws.matches_stand.Goals as goal

pub returns : goal.returns
returns c = matches_stand
