use Rattle.std.proofs.Common.{◌-◌, length, get_or, take, drop, refl}
use Rattle.logtype_text.specs.declared.symbols.Symbol.TheVariants.{Slot}
use Rattle.row_codec.proofs.BodyLemmas.{at_none, at_some, first_left, slot_empty, slot_writing, symbol_puts_slot}
use Rattle.row_codec.proofs.laying.lay_slot.Goals as goal

pub returns-in_default-clause-none : goal.returns-in_default-clause-none
returns-in_default-clause-none g c = λ after. slot_empty (g.N.Names.words c.args.names.now) (Slot c.args.kind) c.args.kind after c.args.words.now refl c.in_default.len_below

pub returns-in_default-2-clause-none : goal.returns-in_default-2-clause-none
returns-in_default-2-clause-none g c = λ after whole.
    let row = c.args.words.now in
    at_none c.in_ok-end.field-0 c.in_ok-end.ensures.misfit c.in_default-2.is
    (slot_writing (g.N.Names.words c.args.names.now) (Slot c.args.kind) c.args.kind after row (get_or row 0 0) (take (length row - 1) (drop 1 row)) refl (first_left row c.in-len1-up.len_at_least) whole)

pub returns-clause-put : goal.returns-clause-put
returns-clause-put g c = λ after.
    let row = c.args.words.now in
    let put = at_some c.in_ok-end.field-0 _ c.in-Some.end c.in_ok-end.ensures.written c.in-Some.is in
    symbol_puts_slot (g.N.Names.words c.args.names.now) row (Slot c.args.kind) c.args.kind after (get_or row 0 0) (take (length row - 1) (drop 1 row)) put.0 (take c.args.at c.args.out.now) (take c.in-Some.end c.lay_word.new.out) refl (first_left row c.in-len1-up.len_at_least) put.1 put.2
