use Rattle.std.proofs.Common.{◌≤◌, length, refl, ◌∙◌, subst, inl, inr}
use Rattle.std.proofs.lemmas.Bool.{cases_lt}
use Rattle.token_rules.specs.Classes.{HasClasses}
use Rattle.token_rules.proofs.ClassLemmas.{whole_range, rule_by_classes, equals_sign_compared, tells}
use Rattle.token_rules.proofs.tokens.is_var.Goals as goal

-- no delimiter ends the run before the token's end, so it is the whole token
pub returns : goal.returns
returns c =
    let run = c.run_from-run.ensures in
    let token = c.args.token.now in
    let any = c.run_from-run.result.any in
    let all = c.run_from-run.result.all in
    let whole : length token ≤ c.run_from-run.result.end = elim (cases_lt c.run_from-run.result.end (length token)) [
      | inl before ↦ absurd (c.requires.no_delimiter _ before (run.stop before))
      | inr reached ↦ reached
    ] in
    let classes : HasClasses token any all = subst (λ t. HasClasses t any all) (whole_range token _ whole) run.classes in
    tells _ _ (c.tells_variable.ensures ∙ rule_by_classes c.args.prev token any all (length token) _ classes refl (c.eq.ensures ∙ equals_sign_compared c.args.prev))
