use Rattle.std.proofs.Common.{ap, List, ℕ, Some}
use Rattle.log_seams.proofs.PartLemmas.{part_rests}
use Rattle.log_seams.proofs.mem_part.MemPartDisk.sync.Goals as goal

pub returns : goal.returns
returns c =
    let rests = part_rests c.args.self.now c.fail.new.self c.fail.ensures.bytes in
    record {
      durable = tt;
      keeps = record { seen = rests.seen; no_more = rests.no_more; time = rests.time };
      ranges = ap (λ (l : List (ℕ × ℕ)). Some l) c.fail.ensures.ranges;
      counts = record { later = c.fail.ensures.later; steady = tt; failed = c.fail.ensures.rose };
    }
