use Rattle.generated_logs.proofs.LineLemmas.{logs_have_lines}
use Rattle.generated_logs.proofs.laws.logs_have_lines.Goals as goal

pub returns : goal.returns
returns c = logs_have_lines
