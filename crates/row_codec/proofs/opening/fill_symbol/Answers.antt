use Rattle.std.proofs.Common.{◌-◌, length, get_or, take, drop}
use Rattle.row_codec.proofs.BodyLemmas.{first_left, slot_empty, slot_writing}
use Rattle.row_codec.proofs.OpeningLemmas.{fills_byte, fills_slot}
use Rattle.row_codec.proofs.opening.fill_symbol.Goals as goal

pub unreachable-requires : goal.unreachable-requires
unreachable-requires g c = slot_empty (g.N.Names.words c.args.names.now) c.args.symbol c.in-Slot.kind c.requires.body.0 c.args.words.now c.in-Slot.is c.in_default.len_below c.requires.body.1

pub fill_word-requires-clause-word : goal.fill_word-requires-clause-word
fill_word-requires-clause-word g c =
    let row = c.args.words.now in
    slot_writing (g.N.Names.words c.args.names.now) c.args.symbol c.in-Slot.kind c.requires.body.0 row (get_or row 0 0) (take (length row - 1) (drop 1 row)) c.in-Slot.is (first_left row c.in-len1-up.len_at_least) c.requires.body.1

pub returns-in-Byte-clause-filled : goal.returns-in-Byte-clause-filled
returns-in-Byte-clause-filled g c = λ after.
    fills_byte (g.N.Names.words c.args.names.now) c.args.words.now c.args.symbol c.in-Byte.byte after (take c.args.at c.args.out.now) (take c.fill.result c.fill.new.out) c.in-Byte.is c.fill.ensures.filled

pub returns-in-len1-up-clause-filled : goal.returns-in-len1-up-clause-filled
returns-in-len1-up-clause-filled g c = λ after.
    let row = c.args.words.now in
    let filled = c.fill_word.ensures.filled in
    fills_slot (g.N.Names.words c.args.names.now) row c.args.symbol c.in-Slot.kind after (get_or row 0 0) (take (length row - 1) (drop 1 row)) filled.0 (take c.args.at c.args.out.now) (take c.fill_word.result c.fill_word.new.out) c.in-Slot.is (first_left row c.in-len1-up.len_at_least) filled.1 filled.2
