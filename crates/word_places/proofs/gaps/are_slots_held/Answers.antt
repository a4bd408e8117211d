use Rattle.std.proofs.Common.{ℕ, List, get_or, refl, rules}
use Rattle.word_places.proofs.HeldLemmas.{grow_same}
use Rattle.word_places.proofs.SlotLemmas.{cut_first, held_none, held_slot}
use Rattle.word_places.proofs.gaps.are_slots_held.Goals as goal

pub loop-byte-init : goal.loop-byte-init
loop-byte-init c = held_none c.args.records.now c.args.text.now c.args.words.now c.requires.numbered

pub loop-byte-preserved : goal.loop-byte-preserved
loop-byte-preserved c =
    let records = c.args.records.now in
    let left : List ℕ = c.loop-byte.left.now in
    held_slot records records records c.args.text.now c.args.words.now c.loop-byte.escaped c.read_kind-next.result.0 c.loop-byte.byte-index _ (get_or left 0 0) c.read_kind-next.result.1 c.in-Some.kind left _
    c.loop-byte.invariant c.loop-byte-test.true refl c.read_kind-next.ensures.kinds c.in-Some.is (cut_first left (search rules)) c.requires.numbered (grow_same records) (c.is_slot_known.ensures (search rules))
