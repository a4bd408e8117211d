use Rattle.stamp_templates.proofs.SearchLemmas.{ListsBefore}
use Rattle.stamp_templates.proofs.places.places_of.Given as goal

abbrev pub invariant-loop-at : goal.invariant-loop-at
invariant-loop-at l = ListsBefore l.template l.text l.at l.places.items
