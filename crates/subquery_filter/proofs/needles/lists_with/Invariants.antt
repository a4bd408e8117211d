use Rattle.std.proofs.Common.{◌≡◌, length}
use Rattle.subquery_filter.proofs.MarkLemmas.{HaveBefore}
use Rattle.subquery_filter.proofs.needles.lists_with.Given as goal

abbrev pub invariant-loop-needle : goal.invariant-loop-needle
invariant-loop-needle g l = (length l.lists.items ≡ l.needle-index) × HaveBefore l.needles (g.N.Names.words l.names) l.needle-index l.lists.items
