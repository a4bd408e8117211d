use Rattle.subquery_filter.proofs.numbers.is_open_number.Goals as goal

pub returns : goal.returns
returns c = λ no. c.args.token.now.numeric_is no
