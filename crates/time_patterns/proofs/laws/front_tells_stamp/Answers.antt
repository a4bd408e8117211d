use Rattle.time_patterns.proofs.VersionLemmas.{front_tells}
use Rattle.time_patterns.proofs.laws.front_tells_stamp.Goals as goal

pub returns : goal.returns
returns c = front_tells
