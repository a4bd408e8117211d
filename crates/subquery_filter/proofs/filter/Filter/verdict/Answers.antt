use Rattle.subquery_filter.proofs.filter.Filter.verdict.Goals as goal

pub returns-clause-told : goal.returns-clause-told
returns-clause-told c = c.verdict_in.ensures.told (c.new.ensures c.args.self.now.tokens.items c.args.self.now.runs.items)
