use Rattle.subquery_filter.proofs.shared.PageTests.of.Goals as goal

pub loop-number-init : goal.loop-number-init
loop-number-init c = c.new-tests.ensures c.args.tokens.now c.args.runs.now
