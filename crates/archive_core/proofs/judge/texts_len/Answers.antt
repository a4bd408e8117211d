use Rattle.std.proofs.Common.{arith, length-append}
use Rattle.record_format.specs.Lists.{four_bytes, list_bytes}
use Rattle.record_format.proofs.ListLemmas.{length-four_bytes}
use Rattle.archive_core.proofs.judge.texts_len.Goals as goal

pub returns : goal.returns
returns c = λ first.
    omega (arith, length-append (four_bytes first) (list_bytes c.args.texts.now), length-four_bytes first, c.saturating_add.ensures, c.room_for.ensures)
