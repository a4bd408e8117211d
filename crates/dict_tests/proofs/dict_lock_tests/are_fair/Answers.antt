use Rattle.std.proofs.Common.{rules, ◌<◌, ◌≤◌, length, All, subst, get_or}
use Rattle.std.proofs.lemmas.List.{take_all}
use Rattle.std.proofs.lemmas.List.Elements.{All-more}
use Rattle.dict_core.specs.Fair.{IsFair}
use Rattle.dict_tests.proofs.dict_lock_tests.are_fair.Goals as goal

pub loop-text-preserved : goal.loop-text-preserved
loop-text-preserved c =
    let inside : c.loop-text.text-index < length c.args.texts.now = search rules in
    let fair : IsFair c.args.number (get_or c.args.texts.now c.loop-text.text-index c.text-item.result) = search rules in
    All-more (IsFair c.args.number) c.args.texts.now c.loop-text.text-index c.text-item.result inside c.loop-text.invariant fair

pub returns : goal.returns
returns c = λ _.
    let all : length c.args.texts.now ≤ c.loop-text.text-index = search rules in
    subst (All (IsFair c.args.number)) (take_all c.loop-text.text-index c.args.texts.now all) c.loop-text.invariant
