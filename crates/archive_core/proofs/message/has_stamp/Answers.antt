use Rattle.std.proofs.Common.{rules, arith, inl, inr, ◌<◌}
use Rattle.std.proofs.lemmas.Bool.{cases_lt}
use Rattle.archive_core.proofs.MessageLemmas.{stamp_tells}
use Rattle.archive_core.proofs.message.has_stamp.Goals as goal

pub returns-then-micro : goal.returns-then-micro
returns-then-micro c = λ version tells.
    let three = tells.0 c.if-micro.true in
    stamp_tells version 3 c.args.line.now c.read_micro.result c.is_some.result (λ less. omega (arith, less, three), λ less. omega (arith, less)) (search rules) c.read_micro.ensures.some c.read_micro.ensures.none

pub returns-else-micro : goal.returns-else-micro
returns-else-micro c = λ version tells.
    stamp_tells version 1 c.args.line.now c.read_stamp.result c.is_some-else-micro.result (λ less. omega arith, λ less. elim (cases_lt version 3) as (λ x. version < 3) [ inl low ↦ low | inr high ↦ absurd (cc (tells.1 high, c.if-micro.false)) ]) (search rules) c.read_stamp.ensures.some c.read_stamp.ensures.none
