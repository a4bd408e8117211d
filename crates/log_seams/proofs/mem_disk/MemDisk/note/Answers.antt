use Rattle.std.proofs.Common.{◌≤◌, [], ◌∙◌, sym, ap, subst, List, length}
use Rattle.log_seams.specs.Replay.{Event, event_of, events, content}
use Rattle.log_seams.specs.Returned.{ranges_told, came_after}
use Rattle.log_seams.specs.StepsReplay.{total}
use Rattle.log_seams.specs.declared.mem_disk.Call.{Call}
use Rattle.log_seams.proofs.EventLemmas.{noted_events, noted_total, noted_content}
use Rattle.log_seams.proofs.PartLemmas.{ranges_next, within_events, within_next}
use Rattle.log_seams.proofs.mem_disk.MemDisk.note.Goals as goal

pub invariant_of-self-clause-whole : goal.invariant_of-self-clause-whole
invariant_of-self-clause-whole c =
    ap total c.push_reserved.ensures.items ∙ noted_total c.args.self.now.calls.items c.args.call c.args.self.now.log.items c.requires.quiet c.args.self.now.whole

pub invariant_of-self-clause-same : goal.invariant_of-self-clause-same
invariant_of-self-clause-same c =
    c.args.self.now.same
    ∙ sym (noted_content c.args.self.now.first c.args.self.now.calls.items c.args.call c.args.self.now.log.items c.requires.quiet)
    ∙ ap (λ (l : List Call). content c.args.self.now.first (events l c.args.self.now.log.items)) (sym c.push_reserved.ensures.items)

pub returns-clause-events : goal.returns-clause-events
returns-clause-events c =
    ap (λ (l : List Call). events l c.args.self.now.log.items) c.push_reserved.ensures.items
    ∙ noted_events c.args.self.now.calls.items c.args.call c.args.self.now.log.items c.requires.quiet

pub invariant_of-self-clause-behind : goal.invariant_of-self-clause-behind
invariant_of-self-clause-behind c =
    subst (λ (l : List Call). came_after c.args.self.now.returned ≤ length l) (sym c.push_reserved.ensures.items)
    (within_next c.args.self.now.calls.items c.args.call c.args.self.now.returned c.args.self.now.behind)

pub returns-clause-ranges : goal.returns-clause-ranges
returns-clause-ranges c =
    let old = events c.args.self.now.calls.items c.args.self.now.log.items in
    ap (λ (l : List Call). ranges_told (events l c.args.self.now.log.items) c.args.self.now.returned) c.push_reserved.ensures.items
    ∙ ap (λ (l : List Event). ranges_told l c.args.self.now.returned) (noted_events c.args.self.now.calls.items c.args.call c.args.self.now.log.items c.requires.quiet)
    ∙ ranges_next (event_of c.args.call []) old c.args.self.now.returned (within_events c.args.self.now.calls.items c.args.self.now.log.items c.args.self.now.returned c.args.self.now.behind)
