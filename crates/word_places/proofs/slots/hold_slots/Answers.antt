use Rattle.std.proofs.Common.{◌∙◌, ℕ, List, get_or, refl, rules}
use Rattle.log_seams.proofs.MomentLemmas.{rests_on}
use Rattle.std.proofs.lemmas.Result.{err_from_is_err_and}
use Rattle.std.proofs.lemmas.List.{nil_from_length}
use Rattle.word_places.specs.Held.{places_of}
use Rattle.word_places.proofs.HeldLemmas.{grow_on}
use Rattle.word_places.proofs.ReadLemmas.{words_none}
use Rattle.word_places.proofs.SlotLemmas.{cut_first, held_none, held_short, held_slot, none_before, reads_next, right_next}
use Rattle.word_places.proofs.slots.hold_slots.Goals as goal

pub loop-byte-init : goal.loop-byte-init
loop-byte-init g c = record {
  rests = search rules;
  reads = words_none (places_of c.args.records.now.items) _ _ refl;
  held = held_none c.args.records.now.items c.args.text.now c.args.words.now c.requires;
  right = λ right. right;
  steady = refl;
}

pub returns-in_default-left-clause-held : goal.returns-in_default-left-clause-held
returns-in_default-left-clause-held g c =
    held_short c.args.records.now.items c.loop-byte.records.items c.args.text.now c.args.words.now c.loop-byte.escaped c.loop-byte.byte-index c.loop-byte.left.now c.loop-byte.invariant.held
    (nil_from_length c.loop-byte.left.now (search rules))

pub returns-in_err-hold_slot-clause-reads : goal.returns-in_err-hold_slot-clause-reads
returns-in_err-hold_slot-clause-reads g c =
    reads_next c.args.records.now.items c.loop-byte.records.items _ _ _ c.loop-byte.invariant.held.grow c.loop-byte.invariant.reads c.hold_slot.ensures.reads

pub returns-in_err-hold_slot-clause-grow : goal.returns-in_err-hold_slot-clause-grow
returns-in_err-hold_slot-clause-grow g c =
    grow_on c.args.records.now.items c.loop-byte.records.items c.hold_slot.new.records.items c.loop-byte.invariant.held.grow c.hold_slot.ensures.grow

pub returns-in_err-hold_slot-clause-damaged : goal.returns-in_err-hold_slot-clause-damaged
returns-in_err-hold_slot-clause-damaged g c = λ is.
    let p = err_from_is_err_and c.from_residual.result c.from_residual.ensures.1 in
    none_before c.args.records.now.items c.loop-byte.records.items _ _ c.loop-byte.invariant.held.grow c.loop-byte.invariant.rests.seen (c.in_err-hold_slot.ensures.damaged (search (rules, is, p.1, p.2)))

pub loop-byte-preserved : goal.loop-byte-preserved
loop-byte-preserved g c =
    let old = c.args.records.now.items in
    let now = c.loop-byte.records.items in
    let new = c.hold_slot.new.records.items in
    let inv = c.loop-byte.invariant in
    let left : List ℕ = c.loop-byte.left.now in
    record {
      rests = rests_on _ _ _ inv.rests c.hold_slot.ensures.rests;
      reads = reads_next old now _ _ _ inv.held.grow inv.reads c.hold_slot.ensures.reads;
      held = held_slot old now new c.args.text.now c.args.words.now c.loop-byte.escaped c.read_kind-next.result.0 c.loop-byte.byte-index _ (get_or left 0 0) c.read_kind-next.result.1 c.in-Some.kind left _
          inv.held c.loop-byte-test.true refl c.read_kind-next.ensures.kinds c.in-Some.is (cut_first left (search rules)) c.hold_slot.ensures.numbered c.hold_slot.ensures.grow c.in_ok-hold_slot.ensures.held;
      right = right_next _ _ old now new inv.rests.seen inv.right c.hold_slot.ensures.right;
      steady = c.in_ok-hold_slot.ensures.counts.steady ∙ inv.steady;
    }
