use Rattle.archive_machine.proofs.LeadLemmas.{one_state}
use Rattle.archive_machine.proofs.laws.one_state.Goals as goal

pub returns : goal.returns
returns c = one_state c.one_row.ensures.row
