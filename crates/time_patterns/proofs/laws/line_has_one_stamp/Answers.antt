use Rattle.time_patterns.proofs.VersionLemmas.{one_stamp_of}
use Rattle.time_patterns.proofs.laws.line_has_one_stamp.Goals as goal

pub returns : goal.returns
returns c = one_stamp_of
