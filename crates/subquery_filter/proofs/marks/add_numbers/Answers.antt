use Rattle.std.proofs.Common.{arith, get_or, rules}
use Rattle.std.proofs.lemmas.List.{get_or_default}
use Rattle.subquery_filter.proofs.MarkLemmas.{at_end, at_step, keeps_self, keeps_through}
use Rattle.subquery_filter.proofs.marks.add_numbers.Goals as goal

pub loop-number-init : goal.loop-number-init
loop-number-init c = (keeps_self c.args.table.now.items, λ k d lt. absurd (omega (arith, lt)))

pub loop-number-preserved : goal.loop-number-preserved
loop-number-preserved c =
    let l = c.loop-number in
    let new = c.add_number.new.table.items in
    let numbers = c.args.numbers.now in (
      keeps_through c.args.table.now.items l.table.items new l.invariant.0 c.in_ok-add_number.ensures.keeps,
      at_step l.table.items new c.args.mask c.args.bit numbers l.number-index (get_or numbers l.number-index 0) (search rules)
          (get_or_default numbers l.number-index 0 (get_or numbers l.number-index 0) (search rules)) c.in_ok-add_number.ensures.keeps c.in_ok-add_number.ensures.added l.invariant.1,
    )

pub returns-clause-added : goal.returns-clause-added
returns-clause-added c = at_end c.loop-number.table.items c.args.mask c.args.bit c.args.numbers.now c.loop-number.number-index (search rules) c.loop-number.invariant.1
