use Rattle.subquery_filter.proofs.rules.is_missing_variable.Goals as goal

pub returns-then-variable : goal.returns-then-variable
returns-then-variable g c = λ rise distinct.
    let tells = c.is_missing.ensures rise distinct in
    (λ yes_missing. (c.if-variable.true, tells.0 yes_missing), λ both. tells.1 both.1)
