use Rattle.std.proofs.Common.{sym, ◌∙◌, arith}
use Rattle.token_rules.proofs.BitLemmas.{lowest_set, one_is_set, zero_is_clear}
use Rattle.logtype_text.proofs.plain.first_escaped.Goals as goal

pub returns-clause-plain : goal.returns-clause-plain
returns-clause-plain c k inside before =
    sym (c.escaped.ensures k inside) ∙ zero_is_clear _ k ((lowest_set c.escaped.result (omega arith)).1 k before)

pub returns-clause-stop : goal.returns-clause-stop
returns-clause-stop c inside =
    sym (c.escaped.ensures _ inside) ∙ one_is_set _ _ ((lowest_set c.escaped.result (omega arith)).2 (omega arith))
