use Rattle.std.proofs.Common.{rules, subst, sym}
use Rattle.subquery_filter.specs.Filter.{Has}
use Rattle.subquery_filter.proofs.BitLemmas.{has_none}
use Rattle.subquery_filter.proofs.FilterLemmas.{has_end, has_next}
use Rattle.subquery_filter.proofs.needing.marks_of.Goals as goal

pub loop-word-preserved : goal.loop-word-preserved
loop-word-preserved c = has_next c.args.marks.now c.args.block.now c.loop-word.word-index c.loop-word.bits c.at-bits.result (search rules) c.at-bits.ensures c.loop-word.invariant

pub returns-then-is_empty : goal.returns-then-is_empty
returns-then-is_empty c = λ n listed. subst (Has 0) (sym (c.is_empty.ensures (search rules) n)) (has_none 0)

pub returns : goal.returns
returns c = has_end c.args.marks.now c.args.block.now c.loop-word.word-index c.loop-word.bits (search rules) c.loop-word.invariant
