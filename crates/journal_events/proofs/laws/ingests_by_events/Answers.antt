use Rattle.journal_events.proofs.EventsLemmas.{ingests_by_events}
use Rattle.journal_events.proofs.laws.ingests_by_events.Goals as goal

pub returns : goal.returns
returns g c = ingests_by_events g.S.Source.left c.args.rows c.args.old.now c.args.new.now c.args.before.now c.args.after.now
