use Rattle.std.proofs.Common.{◌∙◌}
use Rattle.row_codec.proofs.OpeningLemmas.{fill_fits, fill_over}
use Rattle.row_codec.proofs.opening.fill.Goals as goal

pub returns-then-bytes-room-clause-filled : goal.returns-then-bytes-room-clause-filled
returns-then-bytes-room-clause-filled c = c.put.ensures.written ∙ fill_fits c.args.at c.args.out.now c.args.bytes.now c.told-out c.requires c.if-bytes-room.true

pub returns-clause-filled : goal.returns-clause-filled
returns-clause-filled c = c.put-2.ensures.written ∙ fill_over c.args.at c.args.out.now c.args.bytes.now c.told-out c.requires
