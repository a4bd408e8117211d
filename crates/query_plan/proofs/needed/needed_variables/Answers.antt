use Rattle.std.proofs.Common.{rules, ◌≡◌, ◌++◌, ◌∷◌, ap, sym, subst, ◌∙◌}
use Rattle.query_plan.specs.Pieces.{IsCut}
use Rattle.query_plan.specs.Cutting.{side_of}
use Rattle.query_plan.specs.Needs.{needed_variables_of}
use Rattle.query_plan.proofs.BonesLemmas.{cut_behind, variable_step}
use Rattle.query_plan.proofs.needed.needed_variables.Goals as goal

pub push_variable-requires : goal.push_variable-requires
push_variable-requires c =
    let rest : c.loop-first.rest.now ≡ c.in-Some.first.now ∷ c.in-Some.behind.now = search rules in
    subst IsCut rest c.loop-first.invariant.0

pub loop-first-preserved : goal.loop-first-preserved
loop-first-preserved c =
    let l = c.loop-first in
    let first = c.in-Some.first.now in
    let behind = c.in-Some.behind.now in
    let rest : l.rest.now ≡ first ∷ behind = search rules in (
      cut_behind first behind (subst IsCut rest l.invariant.0),
      variable_step l.flags.items c.push_variable.new.flags.items l.before c.delimiter-before.result first behind (search rules) (search rules)
          ∙ ap (λ r. l.flags.items ++ needed_variables_of (side_of l.before) r) (sym rest) ∙ l.invariant.1,
    )
