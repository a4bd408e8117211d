use Rattle.search_engine.proofs.ServedLemmas.{served_grows}
use Rattle.search_engine.proofs.page_batch.PageBatch.read.Goals as goal

pub returns-clause-served : goal.returns-clause-served
returns-clause-served g c = served_grows c.args.context.now.names c.args.context.now.query c.args.held.now c.read.new.held c.args.self.now.pages c.requires.served c.read.ensures.serves c.read.ensures.grow
