use Rattle.std.proofs.lemmas.Result.{on_ok_weaker}
use Rattle.search_walk.specs.declared.type_asking.TypePass.{TypePass}
use Rattle.search_walk.proofs.TypeLemmas.{pass_keeps, pass_leaves_out}
use Rattle.search_walk.proofs.type_asking.TypePassTakesTexts.take.Goals as goal

pub returns-then-branch : goal.returns-then-branch
returns-then-branch c =
    let old : TypePass = c.args.self.now in
    let new : TypePass = record { asking = c.add.new.self; texts = c.keep.new.self } in
    on_ok_weaker c.keep.result (pass_keeps old new c.args.text.now c.in_ok-add.field-0 c.in_ok-add.ensures.left c.in_ok-add.ensures.asked) c.keep.ensures

pub returns : goal.returns
returns c =
    let old : TypePass = c.args.self.now in
    let new : TypePass = record { asking = c.add.new.self; texts = c.leave_out.new.self } in
    on_ok_weaker c.leave_out.result (pass_leaves_out old new c.args.text.now c.in_ok-add.field-0 c.in_ok-add.ensures.left c.in_ok-add.ensures.asked c.if-branch.false) c.leave_out.ensures
