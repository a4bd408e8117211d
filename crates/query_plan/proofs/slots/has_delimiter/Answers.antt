use Rattle.std.proofs.Common.{arith, inl, inr}
use Rattle.std.proofs.lemmas.Bool.{cases_Bool}
use Rattle.query_plan.proofs.ReachLemmas.{nowhere}
use Rattle.query_plan.proofs.slots.has_delimiter.Goals as goal

pub returns-else-at-eq0 : goal.returns-else-at-eq0
returns-else-at-eq0 c = λ symbols typed m.
    let place = c.in-Some.ensures in
    elim (cases_Bool c.begins_behind.result) [
      | inl has ↦ has
      | inr lacks ↦
          absurd (nowhere c.args.text.now c.args.log_type.now c.in-Some.at (omega (arith, c.if-at-eq0.false)) place.0 place.1 (c.begins_behind.ensures lacks) symbols typed m)
    ]
