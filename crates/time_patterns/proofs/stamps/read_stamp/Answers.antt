use Rattle.time_patterns.proofs.StampLemmas.{stamp_of, no_stamp}
use Rattle.time_patterns.proofs.stamps.read_stamp.Goals as goal

pub returns-clause-some : goal.returns-clause-some
returns-clause-some c = stamp_of 1 c.args.line.now c.read.result c.read.ensures.some

pub returns-clause-none : goal.returns-clause-none
returns-clause-none c = no_stamp 1 c.args.line.now c.read.result c.read.ensures.none
