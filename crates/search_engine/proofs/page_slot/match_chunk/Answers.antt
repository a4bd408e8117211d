use Rattle.std.proofs.Common.{rules}
use Rattle.search_engine.proofs.ChunkLemmas.{matched_end, matched_first, matched_next}
use Rattle.search_engine.proofs.page_slot.match_chunk.Goals as goal

pub loop-slot-init : goal.loop-slot-init
loop-slot-init c = matched_first c.args.printer.now.query.now c.args.printer.now.held.now c.args.slots.now

pub loop-slot-preserved : goal.loop-slot-preserved
loop-slot-preserved c =
    matched_next c.args.printer.now.query.now c.args.printer.now.held.now c.args.slots.now c.loop-slot.slots c.loop-slot.slot-index c.match_page.new.slot _ (search rules) c.match_page.ensures.page c.match_page.ensures.worked c.loop-slot.invariant

pub returns : goal.returns
returns c = matched_end c.args.printer.now.query.now c.args.printer.now.held.now c.args.slots.now c.loop-slot.slots c.loop-slot.slot-index (search rules) c.loop-slot.invariant
