use Rattle.time_patterns.proofs.VersionLemmas.{first_line_tells}
use Rattle.time_patterns.proofs.laws.first_line_tells_stamp.Goals as goal

pub returns : goal.returns
returns c = first_line_tells
