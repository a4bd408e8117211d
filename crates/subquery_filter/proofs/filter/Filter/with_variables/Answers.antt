use Rattle.std.proofs.Common.{◌∙◌, sym}
use Rattle.subquery_filter.proofs.filter.Filter.with_variables.Goals as goal

pub returns-then-test-clause-brings : goal.returns-then-test-clause-brings
returns-then-test-clause-brings c = record {
  slots = λ listed. c.with_slots.ensures.slots;
  unlisted = λ unlisted. absurd (let e = sym unlisted ∙ c.if-test.true in cc);
}

pub returns-clause-brings : goal.returns-clause-brings
returns-clause-brings c = record {
  slots = λ listed. absurd (let e = sym listed ∙ c.if-test.false in cc);
  unlisted = λ unlisted. c.with_all.ensures.words;
}
