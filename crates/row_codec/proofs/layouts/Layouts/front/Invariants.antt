use Rattle.std.proofs.Common.{◌≡◌, length}
use mathlib.Core.List.{IsPrefix}
use Rattle.row_codec.proofs.layouts.Layouts.front.Given as goal

abbrev pub invariant-loop-number : goal.invariant-loop-number
invariant-loop-number g l = record {
  front : IsPrefix l.layouts (g.N.Names.types l.names);
  count : length l.layouts ≡ l.number;
}
