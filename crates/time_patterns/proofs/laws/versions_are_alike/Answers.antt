use Rattle.time_patterns.proofs.VersionLemmas.{alike_versions}
use Rattle.time_patterns.proofs.laws.versions_are_alike.Goals as goal

pub returns : goal.returns
returns c = alike_versions
