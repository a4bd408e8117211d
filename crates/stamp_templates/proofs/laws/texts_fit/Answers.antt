use Rattle.stamp_templates.proofs.FitLemmas.{texts_fit}
use Rattle.stamp_templates.proofs.laws.texts_fit.Goals as goal

pub returns : goal.returns
returns c = texts_fit
