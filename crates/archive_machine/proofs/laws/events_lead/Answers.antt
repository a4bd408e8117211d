use Rattle.archive_machine.proofs.LeadLemmas.{events_lead}
use Rattle.archive_machine.proofs.laws.events_lead.Goals as goal

pub returns : goal.returns
returns c = events_lead
