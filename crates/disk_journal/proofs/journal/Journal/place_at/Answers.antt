use Rattle.disk_journal.specs.Journal.{state_of}
use Rattle.disk_journal.proofs.GateLemmas.{last_there, found_there, no_gate}
use Rattle.disk_journal.proofs.journal.Journal.place_at.Goals as goal

pub returns-clause-found : goal.returns-clause-found
returns-clause-found g c = found_there (state_of c.args.self.now) c.requires.at_end c.args.at c.look.result c.look.ensures.opened c.look.ensures.place

pub returns-clause-last : goal.returns-clause-last
returns-clause-last g c = last_there (state_of c.args.self.now) c.requires.at_end c.args.at c.look.result c.look.ensures.closed

pub returns-clause-damaged : goal.returns-clause-damaged
returns-clause-damaged g c = λ place is. no_gate (state_of c.args.self.now) c.args.at c.requires.gate.0 place c.requires.at_end c.requires.gate.1 (c.look.ensures.damaged place is)
