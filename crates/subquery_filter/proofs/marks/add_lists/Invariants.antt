use Rattle.subquery_filter.proofs.MarkLemmas.{ListsBefore}
use Rattle.subquery_filter.proofs.marks.add_lists.Given as goal

abbrev pub invariant-loop-place : goal.invariant-loop-place
invariant-loop-place l = ListsBefore l.table.items l.mask l.tokens l.lists l.place
