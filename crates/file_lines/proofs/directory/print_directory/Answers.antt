use Rattle.std.proofs.Common.{◌∙◌}
use Rattle.file_lines.proofs.DirectoryLemmas.{directory_kept, directory_step, directory_stopped, directory_unsent, on_err}
use Rattle.file_lines.proofs.directory.print_directory.Goals as goal

pub returns-in_err-push_line-clause-err : goal.returns-in_err-push_line-clause-err
returns-in_err-push_line-clause-err g c = on_err c.from_residual.result (directory_kept g.F.Listed.listed c.args.first _ _ _ _ c.loop-index.index c.loop-index.invariant.0)

pub returns-in_err-flush_piece-clause-err : goal.returns-in_err-flush_piece-clause-err
returns-in_err-flush_piece-clause-err g c =
    on_err c.from_residual-in_err-flush_piece.result (directory_stopped g.F.Listed.listed c.args.first _ _ _ _ _ _ c.loop-index.index c.index-files-index.result c.loop-index-test.true c.index-files-index.is c.in_ok-push_line.ensures c.loop-index.invariant.0 c.in_err-flush_piece.ensures.err)

pub loop-index-preserved : goal.loop-index-preserved
loop-index-preserved g c = (
  directory_step g.F.Listed.listed c.args.first _ _ _ _ _ _ _ c.loop-index.index c.index-files-index.result c.loop-index-test.true c.index-files-index.is c.in_ok-push_line.ensures c.loop-index.invariant.0 c.in_ok-flush_piece.ensures.ok,
  c.in_ok-flush_piece.ensures.cause.steady ∙ c.loop-index.invariant.1,
)

pub returns-in_err-flush-clause-err : goal.returns-in_err-flush-clause-err
returns-in_err-flush-clause-err g c = on_err c.from_residual-in_err-flush.result (directory_unsent g.F.Listed.listed c.args.first _ _ _ _ _ c.loop-index.index c.loop-index.invariant.0 c.in_err-flush.ensures.err)
