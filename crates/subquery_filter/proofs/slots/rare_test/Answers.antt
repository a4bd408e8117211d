use Rattle.subquery_filter.proofs.slots.rare_test.Goals as goal

pub returns : goal.returns
returns c = λ plan slots kinds. c.unlisted_test.ensures plan c.args.tokens.now c.args.question.now.others slots c.args.text.now c.gifts_of-known.ensures kinds
