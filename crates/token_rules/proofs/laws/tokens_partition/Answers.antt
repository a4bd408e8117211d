use Rattle.token_rules.proofs.TokenLemmas.{tokens_are_apart, tokens_cover, outside_is_outside}
use Rattle.token_rules.proofs.laws.tokens_partition.Goals as goal

pub returns : goal.returns
returns c = record { apart = tokens_are_apart; cover = tokens_cover; outside = outside_is_outside }
