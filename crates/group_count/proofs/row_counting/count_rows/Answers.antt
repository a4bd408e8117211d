use Rattle.search_walk.specs.Ready.{IsReady}
use Rattle.search_walk.proofs.ReadyLemmas.{zip_long}
use Rattle.group_count.proofs.row_counting.count_rows.Goals as goal

pub count_stored_rows-requires : goal.count_stored_rows-requires
count_stored_rows-requires g c = record { decided = zip_long (IsReady c.args.context.now.names c.args.context.now.query c.args.held.now.records) c.args.page.now.rows c.args.verdicts.now c.requires.ready.each }

pub count_written_rows-requires-clause-decided : goal.count_written_rows-requires-clause-decided
count_written_rows-requires-clause-decided g c = zip_long (IsReady c.args.context.now.names c.args.context.now.query c.args.held.now.records) c.args.page.now.rows c.args.verdicts.now c.requires.ready.each
