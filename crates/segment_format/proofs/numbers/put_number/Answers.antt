use Rattle.std.proofs.Common.{rules}
use Rattle.record_format.specs.Lists.{four_bytes}
use Rattle.segment_format.proofs.numbers.put_number.Goals as goal

pub returns : goal.returns
unfolding four_bytes
returns c = search rules
