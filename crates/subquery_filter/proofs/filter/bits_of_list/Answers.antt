use Rattle.std.proofs.Common.{rules, ap, ◌∙◌, ℕ}
use Rattle.subquery_filter.specs.Filter.{marks_at}
use Rattle.subquery_filter.proofs.FilterLemmas.{has_end, has_next}
use Rattle.subquery_filter.proofs.filter.bits_of_list.Goals as goal

pub loop-number-preserved : goal.loop-number-preserved
loop-number-preserved c = has_next c.args.marks.now c.args.numbers.now c.loop-number.number-index c.loop-number.bits c.at-bits.result (search rules) (c.at-bits.ensures ∙ ap (λ (n : ℕ). marks_at c.args.marks.now n) c.from.ensures) c.loop-number.invariant

pub returns : goal.returns
returns c = has_end c.args.marks.now c.args.numbers.now c.loop-number.number-index c.loop-number.bits (search rules) c.loop-number.invariant
