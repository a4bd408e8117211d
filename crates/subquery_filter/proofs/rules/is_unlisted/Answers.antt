use Rattle.std.proofs.Common.{rules, refl, sym, subst, IsTrue}
use Rattle.std.specs.Prelude.{◌↔◌}
use Rattle.std.specs.List.{Contains}
use Rattle.subquery_filter.specs.Found.{IsNumber}
use Rattle.subquery_filter.proofs.RuleLemmas.{missing_by, missing_new, not_found}
use Rattle.subquery_filter.proofs.rules.is_unlisted.Goals as goal

pub returns-in-Some : goal.returns-in-Some
returns-in-Some c = λ words rise distinct is.
    let listed = c.args.listed.now in
    let n = c.in-Some.number in
    let tells = not_found listed n c.binary_search.result rise c.binary_search.ensures.position in
    missing_by words listed c.args.text.now n c.is_err.result distinct (search rules) (subst (IsNumber words c.args.text.now) c.in-Some.is is)
    (subst (λ b. IsTrue b ↔ (Contains listed n → ⊥)) (sym c.is_err.ensures.value) tells)

pub returns-in-None : goal.returns-in-None
returns-in-None c = λ words rise distinct is.
    (λ yes. missing_new words c.args.listed.now c.args.text.now (search rules) (subst (IsNumber words c.args.text.now) c.in-None.is is), λ missing. refl)
