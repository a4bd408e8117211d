use Rattle.std.proofs.Common.{drop}
use Rattle.archive_text.proofs.WritingLemmas.{rows_go}
use Rattle.archive_text.proofs.walk.write_rows.Goals as goal

pub returns-clause-goes : goal.returns-clause-goes
returns-clause-goes g c = λ bytes.
    let walk = c.args.walk.now in
    rows_go (g.N.Names.types c.args.names.now) (g.N.Names.words c.args.names.now) bytes (drop walk.row walk.columns.rows) (drop c.in_ok-walk.field-0 walk.columns.rows) walk.pages walk.places.now walk.lines c.write_page.new.lines c.in_ok-walk.ensures.written
