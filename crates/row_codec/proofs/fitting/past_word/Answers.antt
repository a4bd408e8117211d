use Rattle.std.proofs.Common.{◌-◌, length, get_or, take, drop}
use Rattle.row_codec.proofs.BodyLemmas.{byte_fits, first_left, slot_empty, slot_fits, slot_writing}
use Rattle.row_codec.proofs.fitting.past_word.Goals as goal

pub returns-in-Byte-clause-some : goal.returns-in-Byte-clause-some
returns-in-Byte-clause-some g c = λ after. byte_fits (g.N.Names.words c.args.names.now) c.args.symbol c.in-Byte.field-0 after c.args.words.now c.in-Byte.is

pub returns-then-word_fits-clause-some : goal.returns-then-word_fits-clause-some
returns-then-word_fits-clause-some g c = λ after.
    let row = c.args.words.now in
    slot_fits (g.N.Names.words c.args.names.now) c.args.symbol c.in-Slot.kind after row (get_or row 0 0) (take (length row - 1) (drop 1 row)) c.in-Slot.is (first_left row c.in-len1-up.len_at_least) (c.word_fits.ensures.0 c.if-word_fits.true)

pub returns-else-word_fits-clause-none : goal.returns-else-word_fits-clause-none
returns-else-word_fits-clause-none g c = λ after whole.
    let row = c.args.words.now in
    let has = slot_writing (g.N.Names.words c.args.names.now) c.args.symbol c.in-Slot.kind after row (get_or row 0 0) (take (length row - 1) (drop 1 row)) c.in-Slot.is (first_left row c.in-len1-up.len_at_least) whole in
    absurd (cc (c.word_fits.ensures.1 has, c.if-word_fits.false))

pub returns-in_default-clause-none : goal.returns-in_default-clause-none
returns-in_default-clause-none g c = λ after. slot_empty (g.N.Names.words c.args.names.now) c.args.symbol c.in-Slot.kind after c.args.words.now c.in-Slot.is c.in_default.len_below
