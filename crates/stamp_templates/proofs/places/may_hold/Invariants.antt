use Rattle.stamp_templates.proofs.SearchLemmas.{NoneBefore}
use Rattle.stamp_templates.proofs.places.may_hold.Given as goal

abbrev pub invariant-loop-at : goal.invariant-loop-at
invariant-loop-at l = NoneBefore l.template l.text l.at
