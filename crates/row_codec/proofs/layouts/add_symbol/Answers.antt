use Rattle.std.proofs.Common.{◌-◌, refl, rules}
use Rattle.row_codec.specs.declared.layouts.Next.TheVariants.{Slot}
use Rattle.row_codec.proofs.LayoutLemmas.{symbol_byte, symbol_slot}
use Rattle.row_codec.proofs.layouts.add_symbol.Goals as goal

pub returns-in_ok-push-in-Byte-clause-cut : goal.returns-in_ok-push-in-Byte-clause-cut
returns-in_ok-push-in-Byte-clause-cut c =
    symbol_byte c.args.symbol c.in-Byte.byte c.args.start c.args.bytes.now.items c.push.new.self.items c.args.pieces.now.items c.in-Byte.is c.in_ok-push-in-Byte.ensures.items

pub returns-in_ok-push-in-Slot-clause-cut : goal.returns-in_ok-push-in-Slot-clause-cut
returns-in_ok-push-in-Slot-clause-cut c =
    symbol_slot c.args.symbol c.in-Slot.kind c.args.start c.len-end.result c.args.bytes.now.items c.args.pieces.now.items c.push-in-Slot.new.self.items
    (record { len = c.len-end.result - c.args.start; next = Slot c.in-Slot.kind }) c.in-Slot.is (search rules) (search rules) refl c.in_ok-push-in-Slot.ensures.items
