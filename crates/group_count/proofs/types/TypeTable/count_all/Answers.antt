use Rattle.std.proofs.Common.{arith, refl, ◌∙◌}
use Rattle.std.proofs.lemmas.List.{take_more}
use Rattle.group_count.specs.Tables.{HoldTypes}
use Rattle.group_count.proofs.ColumnLemmas.{all_taken, further, none_taken}
use Rattle.group_count.proofs.types.TypeTable.count_all.Goals as goal

pub loop-number-init : goal.loop-number-init
loop-number-init c = (refl, none_taken HoldTypes c.args.self.now)

pub loop-number-preserved : goal.loop-number-preserved
loop-number-preserved c = (
  c.count.ensures.limit ∙ c.loop-number.invariant.0,
  further HoldTypes c.args.self.now c.loop-number.self c.count.new.self c.args.numbers.now c.loop-number.number-index _ (omega arith) (take_more c.args.numbers.now c.loop-number.number-index 0 (omega arith))
      c.loop-number.invariant.1 c.in_ok-count.ensures.counted,
)

pub returns-clause-counted : goal.returns-clause-counted
returns-clause-counted c = all_taken HoldTypes c.args.self.now c.loop-number.self c.args.numbers.now c.loop-number.number-index (omega arith) c.loop-number.invariant.1
