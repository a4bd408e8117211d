use Rattle.message_reader.proofs.VersionLawLemmas.{lines_in_version_one}
use Rattle.message_reader.proofs.laws.version_one_has_lines.Goals as goal

pub returns : goal.returns
returns c = lines_in_version_one
