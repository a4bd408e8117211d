use Rattle.row_codec.specs.Laid.{AreCut}
use Rattle.row_tests.proofs.written.are_written.Given as goal

abbrev pub invariant-loop-line : goal.invariant-loop-line
invariant-loop-line l = AreCut l.writer l.books.types.texts
