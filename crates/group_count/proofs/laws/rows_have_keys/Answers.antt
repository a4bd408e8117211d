use Rattle.group_count.proofs.LawLemmas.{minutes_are, types_are, types_within}
use Rattle.group_count.proofs.laws.rows_have_keys.Goals as goal

pub returns-clause-types : goal.returns-clause-types
returns-clause-types c = λ version rows types words messages are. (types_are version types words rows messages are, types_within version types words rows messages are)

pub returns-clause-minutes : goal.returns-clause-minutes
returns-clause-minutes c = λ version micro rows types words messages told are. minutes_are c.patterns_print_whole_moments.ensures version micro types words rows messages told are
