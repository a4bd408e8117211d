use Rattle.std.proofs.Common.{◌≡◌, take}
use Rattle.std.specs.List.{sum_by}
use Rattle.archive_meaning.specs.declared.sums.FileSum.{FileSum}
use Rattle.archive_core.proofs.judge.Judge.counts.Given as goal

abbrev pub invariant-loop-sum : goal.invariant-loop-sum
invariant-loop-sum l = l.messages ≡ sum_by (λ (f : FileSum). f.messages) (take l.sum-index l.self-inside.files.items)
