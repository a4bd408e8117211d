use Rattle.std.proofs.Common.{rules}
use Rattle.segment_format.specs.Layout.{eight_bytes}
use Rattle.segment_format.proofs.numbers.put_long.Goals as goal

pub returns : goal.returns
unfolding eight_bytes
returns c = search rules
