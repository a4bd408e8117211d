use Rattle.std.proofs.Common.{rules}
use Rattle.segment_format.specs.Layout.{moment_bytes}
use Rattle.segment_format.proofs.numbers.put_moment.Goals as goal

pub returns : goal.returns
unfolding moment_bytes
returns c = search rules
