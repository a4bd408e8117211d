use Rattle.std.proofs.Common.{rules, ◌≡◌, ◌++◌, ◌∷◌, ap, sym, subst, ◌∙◌}
use Rattle.query_plan.specs.Pieces.{IsCut}
use Rattle.query_plan.specs.Cutting.{side_of}
use Rattle.query_plan.specs.Needs.{bones}
use Rattle.query_plan.proofs.BonesLemmas.{cut_behind, skeleton_begins, bones_step}
use Rattle.query_plan.proofs.skeleton.skeleton_of.Goals as goal

pub push_bones-requires : goal.push_bones-requires
push_bones-requires c =
    let rest : c.loop-first.rest.now ≡ c.in-Some.first.now ∷ c.in-Some.behind.now = search rules in
    subst IsCut rest c.loop-first.invariant.0

pub loop-first-preserved : goal.loop-first-preserved
loop-first-preserved c =
    let l = c.loop-first in
    let first = c.in-Some.first.now in
    let behind = c.in-Some.behind.now in
    let rest : l.rest.now ≡ first ∷ behind = search rules in (
      cut_behind first behind (subst IsCut rest l.invariant.0),
      bones_step l.items.items c.push_bones.new.items.items l.before c.delimiter-before.result first behind (search rules) (search rules)
          ∙ ap (λ r. l.items.items ++ bones (side_of l.before) r) (sym rest) ∙ l.invariant.1,
    )

pub loop-first-init : goal.loop-first-init
loop-first-init c =
    skeleton_begins c.args.pieces.now c.back_part-rest.result.now c.push.new.self.items c.requires (search rules) (search rules)
