use Rattle.record_format.proofs.HeaderLemmas.{one_header}
use Rattle.record_format.proofs.laws.headers_are_unique.Goals as goal

pub returns : goal.returns
returns c = one_header
