use Rattle.subquery_filter.proofs.filter.Filter.begin_page.Goals as goal

pub returns-then-self-eq0 : goal.returns-then-self-eq0
returns-then-self-eq0 c = c.new.ensures c.args.self.now.tokens.items c.args.self.now.runs.items
