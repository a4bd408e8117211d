use Rattle.line_cut.proofs.ExclusionLemmas.{long_not_given, nothing_not_given, stays_long}
use Rattle.line_cut.proofs.laws.answers_exclude.Goals as goal

pub returns : goal.returns
returns c = record { long = long_not_given; begun = stays_long; nothing = nothing_not_given }
