use Rattle.std.proofs.Common.{ap, List, ℕ, Some}
use Rattle.log_seams.proofs.PartLemmas.{part_rests}
use Rattle.log_seams.proofs.mem_part.MemPartDisk.read.Goals as goal

pub returns-then-next_fails : goal.returns-then-next_fails
returns-then-next_fails c = record {
  gave = tt;
  rests = part_rests c.args.self.now c.fail.new.self c.fail.ensures.bytes;
  range = tt;
  no_range = ap (λ (l : List (ℕ × ℕ)). Some l) c.fail.ensures.ranges;
  counts = record { later = c.fail.ensures.later; steady = tt; failed = c.fail.ensures.rose };
}
