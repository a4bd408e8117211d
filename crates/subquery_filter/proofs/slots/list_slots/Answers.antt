use Rattle.std.proofs.Common.{ℕ, arith, length, subst, sym}
use Rattle.subquery_filter.specs.StepsFilter.{ListedUpTo}
use Rattle.subquery_filter.proofs.SlotLemmas.{listed_all, listed_none, listed_past, listed_slot, stays_same, stays_through}
use Rattle.subquery_filter.proofs.slots.list_slots.Goals as goal

pub loop-symbol-init : goal.loop-symbol-init
loop-symbol-init c =
    let slots = c.args.slots.now.items in
    (listed_none c.args.kinds.now c.args.text.now (length slots) c.args.known slots, stays_same slots, omega arith)

pub loop-symbol-preserved-in_ok-place : goal.loop-symbol-preserved-in_ok-place
loop-symbol-preserved-in_ok-place c =
    let l = c.loop-symbol in
    let first = c.args.slots.now.items in
    let old = l.slots.items in
    let new = c.list_slot.new.slots.items in
    let told = c.in_ok-list_slot.ensures in
    let past = c.past_plain.result.now in (
      subst (λ (n : ℕ). ListedUpTo c.args.kinds.now c.args.text.now c.in-Some.after.now n (length first) c.args.known new) (sym c.in_ok-place.ensures)
          (listed_slot c.args.kinds.now c.args.text.now past c.in-Some.after.now l.place (length first) c.args.known c.in-Slot.kind c.in-Some.symbol old new
          c.in-Some.ensures.some c.in-Slot.is told.stays told.more l.invariant.2 told.listed
          (listed_past c.args.kinds.now c.args.text.now l.rest.now past l.place (length first) c.args.known old c.past_plain.ensures.same c.past_plain.ensures.shorter l.invariant.0)),
      stays_through first old new l.invariant.1 told.stays,
      omega (arith, l.invariant.2, told.more),
    )

pub returns-clause-listed : goal.returns-clause-listed
returns-clause-listed c =
    let l = c.loop-symbol in
    let first = length c.args.slots.now.items in
    let past = c.past_plain.result.now in
    listed_all c.args.kinds.now c.args.text.now past l.place first c.args.known l.slots.items c.in_default.ensures.none
    (listed_past c.args.kinds.now c.args.text.now l.rest.now past l.place first c.args.known l.slots.items c.past_plain.ensures.same c.past_plain.ensures.shorter l.invariant.0)
