use mathlib.Core.List.{IsPrefix}
use Rattle.row_codec.proofs.layouts.Layouts.extend.Given as goal

abbrev pub invariant-loop : goal.invariant-loop
invariant-loop g l = IsPrefix l.self (g.N.Names.types l.names)
