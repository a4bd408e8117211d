use Rattle.std.proofs.Common.{◌≡◌, ◌≤◌, ◌∷◌, [], ◌++◌, ◌∙◌, sym, ap, subst, rules, List, ℕ, length, refl}
use Rattle.log_seams.specs.Replay.{wrote, events, content, after_event, Event}
use Rattle.log_seams.specs.Returned.{ranges_told, came_after}
use Rattle.log_seams.specs.StepsReplay.{total}
use Rattle.log_seams.specs.declared.mem_disk.Call.{Call}
use Rattle.log_seams.specs.declared.mem_disk.Call.TheVariants.{Wrote}
use Rattle.log_seams.proofs.EventLemmas.{wrote_events, wrote_total}
use Rattle.log_seams.proofs.PartLemmas.{ranges_next, within_events, within_next}
use Rattle.log_seams.proofs.mem_disk.MemDisk.put.Goals as goal

pub invariant_of-self-clause-whole : goal.invariant_of-self-clause-whole
invariant_of-self-clause-whole c =
    let log : c.extend_from_slice.new.self.items ≡ c.args.self.now.log.items ++ c.args.bytes.now = search rules in
    ap total c.push_reserved.ensures.items
    ∙ wrote_total c.args.self.now.calls.items c.args.at (length c.args.bytes.now) c.args.done c.args.self.now.log.items c.args.bytes.now c.args.self.now.whole refl
    ∙ sym (ap (λ (l : List ℕ). length l) log)

pub invariant_of-self-clause-same : goal.invariant_of-self-clause-same
invariant_of-self-clause-same c =
    let event = wrote c.args.done c.args.at c.args.bytes.now in
    let log : c.extend_from_slice.new.self.items ≡ c.args.self.now.log.items ++ c.args.bytes.now = search rules in
    let calls : c.push_reserved.new.self.items ≡ _ = c.push_reserved.ensures.items in
    let same = wrote_events c.args.self.now.calls.items c.args.at (length c.args.bytes.now) c.args.done c.args.self.now.log.items c.args.bytes.now c.args.self.now.whole refl in
    let bytes : c.apply.new.file.items ≡ after_event event c.args.self.now.bytes.items = search rules in
    bytes
    ∙ ap (λ (l : List ℕ). after_event event l) c.args.self.now.same
    ∙ sym (ap (λ (l : List Event). content c.args.self.now.first l) same)
    ∙ ap (λ (l : List Call). content c.args.self.now.first (events l (c.args.self.now.log.items ++ c.args.bytes.now))) (sym calls)
    ∙ ap (λ (l : List ℕ). content c.args.self.now.first (events c.push_reserved.new.self.items l)) (sym log)

pub returns-clause-events : goal.returns-clause-events
returns-clause-events c =
    let log : c.extend_from_slice.new.self.items ≡ c.args.self.now.log.items ++ c.args.bytes.now = search rules in
    ap (λ (l : List Call). events l c.extend_from_slice.new.self.items) c.push_reserved.ensures.items
    ∙ ap (λ (l : List ℕ). events (c.args.self.now.calls.items ++ Wrote c.args.at (length c.args.bytes.now) c.args.done ∷ []) l) log
    ∙ wrote_events c.args.self.now.calls.items c.args.at (length c.args.bytes.now) c.args.done c.args.self.now.log.items c.args.bytes.now c.args.self.now.whole refl

pub invariant_of-self-clause-behind : goal.invariant_of-self-clause-behind
invariant_of-self-clause-behind c =
    subst (λ (l : List Call). came_after c.args.self.now.returned ≤ length l) (sym c.push_reserved.ensures.items)
    (within_next c.args.self.now.calls.items (Wrote c.args.at (length c.args.bytes.now) c.args.done) c.args.self.now.returned c.args.self.now.behind)

pub returns-clause-ranges : goal.returns-clause-ranges
returns-clause-ranges c =
    let old = events c.args.self.now.calls.items c.args.self.now.log.items in
    ap (λ (l : List Event). ranges_told l c.args.self.now.returned) (returns-clause-events c)
    ∙ ranges_next (wrote c.args.done c.args.at c.args.bytes.now) old c.args.self.now.returned (within_events c.args.self.now.calls.items c.args.self.now.log.items c.args.self.now.returned c.args.self.now.behind)
