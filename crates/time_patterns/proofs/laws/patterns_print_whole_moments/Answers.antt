use Rattle.time_patterns.proofs.BoundLemmas.{printed_moments}
use Rattle.time_patterns.proofs.laws.patterns_print_whole_moments.Goals as goal

pub returns : goal.returns
returns c = printed_moments
