use Rattle.std.proofs.Common.{◌-◌, length, get_or, take, drop, rules}
use Rattle.row_codec.proofs.BodyLemmas.{first_left, slot_empty, slot_writing, symbol_puts_byte, symbol_puts_slot}
use Rattle.row_codec.proofs.expanding.put_symbol.Goals as goal

pub returns-in_ok-put_bytes-in-Byte-clause-put : goal.returns-in_ok-put_bytes-in-Byte-clause-put
returns-in_ok-put_bytes-in-Byte-clause-put g c = λ after.
    symbol_puts_byte (g.N.Names.words c.args.names.now) c.args.words.now c.args.symbol c.in-Byte.byte after c.args.out.now.items c.put_bytes.new.out.items c.in-Byte.is c.in_ok-put_bytes-in-Byte.ensures.put

pub returns-in_default-clause-none : goal.returns-in_default-clause-none
returns-in_default-clause-none g c = λ after. slot_empty (g.N.Names.words c.args.names.now) c.args.symbol c.in-Slot.kind after c.args.words.now c.in-Slot.is c.in_default.len_below

pub returns-then-not-branch-clause-none : goal.returns-then-not-branch-clause-none
returns-then-not-branch-clause-none g c = λ after whole.
    let row = c.args.words.now in
    c.in_ok-put_word-in-Slot.ensures.misfit (search rules)
    (slot_writing (g.N.Names.words c.args.names.now) c.args.symbol c.in-Slot.kind after row (get_or row 0 0) (take (length row - 1) (drop 1 row)) c.in-Slot.is (first_left row c.in-len1-up.len_at_least) whole)

pub returns-else-not-branch-clause-put : goal.returns-else-not-branch-clause-put
returns-else-not-branch-clause-put g c = λ after.
    let row = c.args.words.now in
    let put = c.in_ok-put_word-in-Slot.ensures.written (search rules) in
    symbol_puts_slot (g.N.Names.words c.args.names.now) row c.args.symbol c.in-Slot.kind after (get_or row 0 0) (take (length row - 1) (drop 1 row)) put.0 c.args.out.now.items c.put_word.new.out.items c.in-Slot.is (first_left row c.in-len1-up.len_at_least) put.1 put.2
