use Rattle.std.proofs.Common.{[], List, take}
use Rattle.query_plan.specs.declared.pieces.Piece.{Piece}
use Rattle.subquery_filter.specs.declared.filter.Filter.{Filter}
use Rattle.subquery_filter.specs.Asking.{HasAsked}
use Rattle.subquery_filter.proofs.asking.add_all.Given as goal

abbrev pub invariant-loop-number : goal.invariant-loop-number
invariant-loop-number g l = (ps : List Piece) (f : Filter) → HasAsked ps f [] l.fn.asking → HasAsked ps f (take l.number (g.N.Names.types l.names)) l.asking
