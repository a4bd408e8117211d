use Rattle.journal_events.proofs.EventsLemmas.{merges_by_events}
use Rattle.journal_events.proofs.laws.merges_by_events.Goals as goal

pub returns : goal.returns
returns g c = λ second first names files refusal. merges_by_events second first names files refusal c.args.before.now c.args.after.now
