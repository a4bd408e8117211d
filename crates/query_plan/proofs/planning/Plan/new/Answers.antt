use Rattle.std.proofs.Common.{rules, ◌≡◌, subst}
use Rattle.query_plan.specs.Pieces.{wide_pieces, IsCut}
use Rattle.query_plan.proofs.BonesLemmas.{wide_cut}
use Rattle.query_plan.proofs.planning.Plan.new.Goals as goal

pub needed_variables-requires : goal.needed_variables-requires
needed_variables-requires c =
    let is : wide_pieces c.args.pattern.now ≡ c.as_slice-6.result.now = search rules in subst IsCut is (wide_cut c.args.pattern.now)

pub skeleton_of-requires : goal.skeleton_of-requires
skeleton_of-requires c =
    let is : wide_pieces c.args.pattern.now ≡ c.as_slice-7.result.now = search rules in subst IsCut is (wide_cut c.args.pattern.now)

pub invariant_of-result : goal.invariant_of-result
invariant_of-result c =
    let is : wide_pieces c.args.pattern.now ≡ c.in_ok-pieces.pieces.items = search rules in
    (subst IsCut is (wide_cut c.args.pattern.now), search rules, search rules, search rules, search rules, search rules)
