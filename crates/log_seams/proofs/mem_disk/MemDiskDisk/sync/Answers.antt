use Rattle.std.proofs.Common.{rules, sym, ◌∙◌, ap, List, ℕ, Some}
use Rattle.log_seams.specs.Replay.{synced}
use Rattle.log_seams.proofs.EventLemmas.{synced_less, synced_only, elapses}
use Rattle.log_seams.proofs.mem_disk.MemDiskDisk.sync.Goals as goal

pub returns-clause-call : goal.returns-clause-call
returns-clause-call c =
    let same = c.note.ensures.recorded.same.first in
    let is = c.note.ensures.events in
    record {
      durable = λ f left. synced_only _ _ _ _ same is f left ∙ sym c.args.self.now.same ∙ sym c.note.ensures.bytes;
      keeps = record {
        seen = ap (λ (l : List ℕ). Some l) c.note.ensures.bytes;
        no_more = synced_less _ _ _ _ same is;
        time = elapses c.args.self.now c.note.new.self synced same is;
      };
      ranges = ap (λ (l : List (ℕ × ℕ)). Some l) c.note.ensures.ranges;
      counts = search rules;
    }
