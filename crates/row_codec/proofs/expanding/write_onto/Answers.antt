use Rattle.std.proofs.Common.{rules}
use Rattle.row_codec.proofs.expanding.write_onto.Goals as goal

pub unreachable-requires : goal.unreachable-requires
unreachable-requires g c = c.in_ok-write_fitting.ensures.misfit (search rules) c.requires

pub returns-clause-written : goal.returns-clause-written
returns-clause-written g c = c.in_ok-write_fitting.ensures.written (search rules)
