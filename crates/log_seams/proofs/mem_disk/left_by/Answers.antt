use Rattle.std.proofs.Common.{rules, ◌≡◌, ◌≤◌, ◌+◌, ◌-◌, length, List, ℕ, ◌∷◌, get_or, take, drop, false, ap, sym, ◌∙◌, arith}
use Rattle.std.proofs.lemmas.List.{take_rest, length-drop}
use Rattle.log_seams.specs.Replay.{Event, events, event_of, content, after_event, left_by}
use Rattle.log_seams.specs.StepsReplay.{total}
use Rattle.log_seams.specs.declared.mem_disk.Call.TheVariants.{Wrote}
use Rattle.log_seams.proofs.EventLemmas.{total_within, total_more, events_next}
use Rattle.log_seams.proofs.mem_disk.left_by.Goals as goal

pub slice_bounds-redo-count : goal.slice_bounds-redo-count
slice_bounds-redo-count c =
    let some = total_within c.args.calls.now c.loop-call.call-index (Wrote 0 0 false) c.loop-call-test.true in
    omega (arith, some, c.loop-call.invariant.from, c.loop-call.invariant.within)

pub slice_bounds-redo-start : goal.slice_bounds-redo-start
slice_bounds-redo-start c =
    let some = total_within c.args.calls.now c.loop-call.call-index (Wrote 0 0 false) c.loop-call-test.true in
    let within : c.loop-call.from ≤ length c.args.log.now = omega (arith, some, c.loop-call.invariant.from, c.loop-call.invariant.within) in
    search rules

pub redo-requires : goal.redo-requires
redo-requires c =
    let some = total_within c.args.calls.now c.loop-call.call-index (Wrote 0 0 false) c.loop-call-test.true in
    let size : length (take (length c.args.log.now - c.loop-call.from) (drop c.loop-call.from c.args.log.now)) ≡ length c.args.log.now - c.loop-call.from =
    ap (λ (l : List ℕ). length l) (take_rest c.args.log.now c.loop-call.from) ∙ length-drop c.loop-call.from c.args.log.now in
    omega (arith, some, size, c.loop-call.invariant.from, c.loop-call.invariant.within)

pub overflow_add-from : goal.overflow_add-from
overflow_add-from c =
    let some = total_within c.args.calls.now c.loop-call.call-index (Wrote 0 0 false) c.loop-call-test.true in
    let small : c.loop-call.from + c.logged-from.result ≤ length c.args.log.now = omega (arith, some, c.logged-from.ensures, c.loop-call.invariant.from, c.loop-call.invariant.within) in
    search (rules, arith)

pub loop-call-preserved : goal.loop-call-preserved
loop-call-preserved c =
    let call = get_or c.args.calls.now c.loop-call.call-index (Wrote 0 0 false) in
    let log = c.args.log.now in
    let i = c.loop-call.call-index in
    let before = events (take i c.args.calls.now) log in
    let here = event_of call (drop (total (take i c.args.calls.now)) log) in
    let same : event_of call (take (length log - c.loop-call.from) (drop c.loop-call.from log)) ≡ here =
    ap (λ (l : List ℕ). event_of call l) (take_rest log c.loop-call.from ∙ ap (λ (k : ℕ). drop k log) c.loop-call.invariant.from) in
    let next = events_next c.args.calls.now i (Wrote 0 0 false) log c.loop-call-test.true in
    record {
      from = omega (arith, c.loop-call.invariant.from, c.logged-from.ensures, total_more c.args.calls.now i (Wrote 0 0 false) c.loop-call-test.true);
      within = c.loop-call.invariant.within;
      kept =
          c.in_ok-redo.ensures.kept
          ∙ ap (λ (e : Event). after_event e c.loop-call.kept.items) same
          ∙ ap (λ (l : List ℕ). after_event here l) c.loop-call.invariant.kept
          ∙ sym (ap (λ (l : List Event). content c.args.first.now l) next);
      torn =
          c.in_ok-redo.ensures.torn c.args.first.now before c.loop-call.invariant.kept c.loop-call.invariant.torn
          ∙ ap (λ (e : Event). left_by c.args.pending c.args.first.now (e ∷ before)) same
          ∙ sym (ap (λ (l : List Event). left_by c.args.pending c.args.first.now l) next);
    }
