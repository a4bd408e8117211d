use Rattle.row_rename.specs.Tables.{AreTables}
use Rattle.row_tests.proofs.row_rename_tests.damaged.Given as goal

abbrev pub invariant-loop-count : goal.invariant-loop-count
invariant-loop-count l = AreTables l.books.types.texts l.books.words.texts l.others.types.texts l.others.words.texts l.tables
