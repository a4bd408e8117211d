use Rattle.std.proofs.Common.{ap, List, ℕ, Some}
use Rattle.log_seams.proofs.PartLemmas.{part_rests}
use Rattle.log_seams.proofs.mem_part.MemPartDisk.len.Goals as goal

pub returns-then-next_fails : goal.returns-then-next_fails
returns-then-next_fails c = record {
  told = tt;
  rests = part_rests c.args.self.now c.fail.new.self c.fail.ensures.bytes;
  ranges = ap (λ (l : List (ℕ × ℕ)). Some l) c.fail.ensures.ranges;
  counts = record { later = c.fail.ensures.later; steady = tt; failed = c.fail.ensures.rose };
}
