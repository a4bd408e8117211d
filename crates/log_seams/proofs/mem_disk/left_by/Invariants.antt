use Rattle.std.proofs.Common.{◌≡◌, ◌≤◌, length, take}
use Rattle.log_seams.specs.Replay.{events, content, left_by}
use Rattle.log_seams.specs.StepsReplay.{total}
use Rattle.log_seams.proofs.mem_disk.left_by.Given as goal

abbrev pub invariant-loop-call : goal.invariant-loop-call
invariant-loop-call l = record {
  from : l.from ≡ total (take l.call-index l.calls);
  within : total l.calls ≤ length l.log;
  kept : l.kept.items ≡ content l.first (events (take l.call-index l.calls) l.log);
  torn : l.torn.items ≡ left_by l.pending l.first (events (take l.call-index l.calls) l.log);
}
