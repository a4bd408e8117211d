use Rattle.std.proofs.Common.{ap, refl, length, List, ℕ, Some}
use Rattle.log_seams.proofs.PartLemmas.{part_elapses, part_follows}
use Rattle.log_seams.proofs.mem_part.MemPartDisk.write.Goals as goal

pub returns : goal.returns
returns c = record {
  written = tt;
  tells = refl;
  images = part_follows c.args.self.now c.fail.new.self c.args.at (length c.args.bytes.now) c.fail.ensures.bytes;
  time = part_elapses c.args.self.now c.fail.new.self c.fail.ensures.bytes;
  ranges = ap (λ (l : List (ℕ × ℕ)). Some l) c.fail.ensures.ranges;
  counts = record { later = c.fail.ensures.later; steady = tt; failed = c.fail.ensures.rose };
}
