use Rattle.std.proofs.Common.{◌≡◌, ◌≤◌, ◌∙◌, sym, subst, rules, arith, length, take}
use Rattle.std.proofs.lemmas.Result.{IfOk-weaker}
use Rattle.log_seams.specs.Replay.{IsImage, left_by}
use Rattle.log_seams.specs.StepsReplay.{total}
use Rattle.log_seams.specs.MemDisk.{bytes_of, events_until, IsNewDisk}
use Rattle.log_seams.proofs.EventLemmas.{total_split, left_image}
use Rattle.log_seams.proofs.mem_disk.MemDisk.stopped.Goals as goal

pub left_by-requires : goal.left_by-requires
left_by-requires c =
    let calls : total (take c.args.after c.args.self.now.calls.items) ≤ length c.args.self.now.log.items = omega (arith, total_split c.args.self.now.calls.items c.args.after, c.args.self.now.whole) in
    search rules

pub returns-clause-image : goal.returns-clause-image
returns-clause-image c =
    let bytes = left_by c.args.pending c.args.self.now.first (events_until c.args.after c.args.self.now) in
    let image = left_image c.args.pending c.args.self.now.first (events_until c.args.after c.args.self.now) in
    let same : c.in_ok-left.left.items ≡ bytes = search rules in
    IfOk-weaker c.new-3.result (IsNewDisk c.new.result c.args.self.now.room c.args.self.now.call_limit c.new-2.result.items) (λ m. IsImage c.args.self.now.first (events_until c.args.after c.args.self.now) (bytes_of m))
    (λ m new. subst (IsImage c.args.self.now.first (events_until c.args.after c.args.self.now)) (sym (new.reads ∙ c.new.ensures ∙ same)) image)
    c.new-3.ensures
