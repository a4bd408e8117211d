use Rattle.std.proofs.Common.{ℕ, List}
use Rattle.row_codec.specs.Laid.{AreCut}
use Rattle.search_walk.specs.Held.{AreRowsOf, Named}
use Rattle.search_walk.specs.Ready.{IsReadyPage}
use Rattle.search_engine.specs.Sofar.{sofar}
use Rattle.search_engine.specs.StepsPast.{PastRows}
use Rattle.search_engine.proofs.printing.print_page.Given as goal

abbrev pub invariant-loop-place : goal.invariant-loop-place
invariant-loop-place g l = record {
  past : (n : Named) (messages : List (List ℕ))
      → IsReadyPage n l.printer.query.now l.printer.held.now l.page.rows l.verdicts → AreRowsOf n l.page.rows messages
      → PastRows n l.printer.query.now l.label.name.now l.label.number l.page.rows l.place messages
      (λ w. sofar w l.fn.gathered.items l.fn.counts l.fn.expanded) (λ w. sofar w l.gathered.items l.counts l.expanded);
  types : AreCut l.writer l.printer.held.now.types;
}
