use Rattle.archive_meaning.specs.declared.TheConstants.{MAX_ROWS}
use Rattle.upgrade_command.proofs.FillLemmas.{did_fill}
use Rattle.upgrade_command.proofs.filling.fill.Goals as goal

pub returns-in-Ok-clause-did : goal.returns-in-Ok-clause-did
returns-in-Ok-clause-did g c =
    let done = c.ingest_opened-done in
    did_fill MAX_ROWS done.result.1 c.into_disk-disk.result.1 c.args.journal c.in-Ok.journal c.args.jobs.now done.new.jobs done.result.0 c.in-Ok.is c.into_disk-disk.ensures.cause done.ensures.known done.ensures.done done.ensures.causes done.ensures.in_turn
