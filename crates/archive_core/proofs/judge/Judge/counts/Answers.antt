use Rattle.std.proofs.Common.{rules, arith, ap, take, List}
use Rattle.std.specs.List.{sum_by}
use Rattle.std.proofs.lemmas.List.Sums.{sum_by-le, sum_by_more_le}
use Rattle.archive_meaning.specs.declared.sums.FileSum.{FileSum}
use Rattle.archive_meaning.specs.Sums.{no_messages}
use Rattle.archive_core.proofs.judge.Judge.counts.Goals as goal

pub overflow_add-messages : goal.overflow_add-messages
overflow_add-messages c =
    let read = c.deref-sum-items in
    let i = c.loop-sum.sum-index in
    omega (
      arith,
      c.loop-sum.invariant,
      ap (λ (l : List FileSum). sum_by (λ (f : FileSum). f.messages) (take i l)) read.ensures.value,
      ap (λ (l : List FileSum). sum_by (λ (f : FileSum). f.messages) l) read.ensures.value,
      sum_by_more_le (λ (f : FileSum). f.messages) read.result.now i no_messages (search rules),
      sum_by-le (λ (f : FileSum). f.messages) 4_294_967_294 c.self.inside.files.items c.self.invariant.few_messages,
      c.self.invariant.few_files,
    )
