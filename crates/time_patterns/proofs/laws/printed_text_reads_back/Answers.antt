use Rattle.time_patterns.proofs.VersionLemmas.{reads_back}
use Rattle.time_patterns.proofs.laws.printed_text_reads_back.Goals as goal

pub returns : goal.returns
returns c = reads_back
