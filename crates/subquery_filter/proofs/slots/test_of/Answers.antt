use Rattle.std.proofs.Common.{inr}
use Rattle.subquery_filter.specs.declared.verdicts.Verdict.TheVariants.{Rejected}
use Rattle.subquery_filter.proofs.FilterLemmas.{closed_is, test_told}
use Rattle.subquery_filter.proofs.slots.test_of.Goals as goal

pub returns-then-lacks-clause-test : goal.returns-then-lacks-clause-test
returns-then-lacks-clause-test c = λ ps q.
    closed_is ps c.args.tokens.now c.args.question.now.others c.args.slots.now.items c.args.text.now c.closed_test.result Rejected c.closed_test.ensures (λ e. cc (e)) (inr (c.requires.lacks c.if-lacks.true))

pub returns-in-Some-clause-test : goal.returns-in-Some-clause-test
returns-in-Some-clause-test c = λ ps q. (rw (c.in-Some.is) at c.requires.rare) ps c.args.slots.now.items q.kinds

pub returns-then-is_for_stamps-clause-test : goal.returns-then-is_for_stamps-clause-test
returns-then-is_for_stamps-clause-test c = λ ps q. c.passed_test.ensures ps c.args.tokens.now c.args.question.now.others c.args.slots.now.items c.args.text.now q.all

pub returns-clause-test : goal.returns-clause-test
returns-clause-test c = test_told c.args.tokens.now c.args.question.now c.test_by_slots.new.slots.items c.args.text.now c.gifts_of-known.result c.test_by_slots.result c.gifts_of-known.ensures c.test_by_slots.ensures.test
