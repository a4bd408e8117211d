use Rattle.search_walk.proofs.context.Context.decide.Goals as goal

pub returns : goal.returns
returns g c = λ told. c.decide_in.ensures.decided (c.new.ensures c.filter.result.now.tokens.items c.filter.result.now.runs.items) c.filter.ensures told
