use Rattle.std.proofs.Common.{ℕ, List}
use Rattle.row_codec.specs.Laid.{AreCut}
use Rattle.query_plan.specs.Laws.{IsPlain}
use Rattle.search_walk.specs.Held.{AreRowsOf, Named}
use Rattle.search_walk.specs.Ready.{IsReadyPage}
use Rattle.group_count.specs.StepsCounted.{sofar}
use Rattle.group_count.specs.StepsRows.{PastRows}
use Rattle.group_count.proofs.row_counting.count_written_rows.Given as goal

abbrev pub invariant-loop-place : goal.invariant-loop-place
invariant-loop-place g l = record {
  past : (n : Named) (name : List ℕ) (number : ℕ) (messages : List (List ℕ)) → (¬ IsPlain l.query.pattern)
      → IsReadyPage n l.query l.held l.page.rows l.verdicts → AreRowsOf n l.page.rows messages
      → PastRows g.T.RowTable.counted n l.query name number l.page.rows l.place messages
      (sofar l.fn.counts l.fn.expanded) (sofar l.counts l.expanded);
  types : AreCut l.writer l.held.types;
}
