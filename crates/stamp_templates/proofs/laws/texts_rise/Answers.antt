use Rattle.stamp_templates.proofs.RiseLemmas.{texts_rise}
use Rattle.stamp_templates.proofs.laws.texts_rise.Goals as goal

pub returns : goal.returns
returns c = texts_rise
