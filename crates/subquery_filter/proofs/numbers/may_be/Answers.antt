use Rattle.std.proofs.Common.{◌≡◌, List, ℕ, rules, subst, sym}
use Rattle.std.specs.Prelude.{Some}
use Rattle.var_codec.specs.Codes.{Codes}
use Rattle.wild_match.specs.Matches.{Match}
use Rattle.query_plan.specs.Needs.{around}
use Rattle.subquery_filter.proofs.NumberLemmas.{stands_in}
use Rattle.subquery_filter.proofs.numbers.may_be.Goals as goal

pub returns-in-Some : goal.returns-in-Some
returns-in-Some c = λ coded words variable word has finds.
    let closed : c.args.token.now.closed ≡ Some c.in-Some.code = search rules in
    c.is_kind.ensures words variable word has (subst (λ (x : List ℕ). Codes x c.in-Some.code) (sym (finds.1 c.in-Some.code closed)) (coded c.in-Some.code closed))

pub returns-in-None : goal.returns-in-None
returns-in-None c = λ coded words variable word has finds.
    c.may_stand.ensures words variable word has (subst (λ (t : List ℕ). Match (around t) variable) (sym c.as_slice.ensures) (stands_in c.args.token.now variable finds.0))
