use Rattle.search_walk.proofs.PassLemmas.{none_read}
use Rattle.search_walk.proofs.passing.read_ahead.Goals as goal

pub returns-then-not-has_next-clause-reads : goal.returns-then-not-has_next-clause-reads
returns-then-not-has_next-clause-reads g c = none_read c.args.pages.now (g.D.Disk.state c.args.disk.now)

pub returns-then-rows_left-gt-MAX_ROWS-clause-reads : goal.returns-then-rows_left-gt-MAX_ROWS-clause-reads
returns-then-rows_left-gt-MAX_ROWS-clause-reads g c = none_read c.args.pages.now (g.D.Disk.state c.args.disk.now)
