use Rattle.std.proofs.Common.{◌≡◌, take}
use Rattle.wild_match.specs.Widened.{widened}
use Rattle.wild_match.proofs.widening.widen.Given as goal

abbrev pub invariant-loop-item : goal.invariant-loop-item
invariant-loop-item l = l.items.items ≡ widened (take l.item-index l.pattern)
