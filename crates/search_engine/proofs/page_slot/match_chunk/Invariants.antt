use Rattle.search_engine.proofs.ChunkLemmas.{MatchedTo}
use Rattle.search_engine.proofs.page_slot.match_chunk.Given as goal

abbrev pub invariant-loop-slot : goal.invariant-loop-slot
invariant-loop-slot l =
    MatchedTo l.fn.printer.query.now l.fn.printer.held.now l.fn.slots l.slots l.slot-index
