use Rattle.std.proofs.Common.{rules}
use Rattle.archive_core.proofs.RowsLemmas.{ends_last}
use Rattle.archive_core.proofs.rows.is_open.Goals as goal

pub returns-in-len1-up : goal.returns-in-len1-up
returns-in-len1-up c = ends_last c.args.bytes.now (search rules)
