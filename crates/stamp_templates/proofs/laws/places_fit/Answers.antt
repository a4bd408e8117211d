use Rattle.stamp_templates.proofs.PlaceLemmas.{places_fit}
use Rattle.stamp_templates.proofs.laws.places_fit.Goals as goal

pub returns : goal.returns
returns c = places_fit c.texts_fit.ensures
