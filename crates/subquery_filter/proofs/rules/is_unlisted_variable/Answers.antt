use Rattle.subquery_filter.proofs.rules.is_unlisted_variable.Goals as goal

pub returns-then-variable : goal.returns-then-variable
returns-then-variable c = λ words rise distinct is.
    let tells = c.is_unlisted.ensures words rise distinct (is c.if-variable.true) in
    (λ yes_missing. (c.if-variable.true, tells.0 yes_missing), λ both. tells.1 both.1)
