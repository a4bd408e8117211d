use Rattle.stamp_templates.proofs.BetweenLemmas.{OutBefore}
use Rattle.stamp_templates.proofs.between.may_lie_between.Given as goal

abbrev pub invariant-loop-at : goal.invariant-loop-at
invariant-loop-at l = OutBefore l.template l.low l.high l.text l.at
