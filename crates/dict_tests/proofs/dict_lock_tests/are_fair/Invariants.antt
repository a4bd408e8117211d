use Rattle.std.proofs.Common.{All, take}
use Rattle.dict_core.specs.Fair.{IsFair}
use Rattle.dict_tests.proofs.dict_lock_tests.are_fair.Given as goal

abbrev pub invariant-loop-text : goal.invariant-loop-text
invariant-loop-text l = All (IsFair l.number) (take l.text-index l.texts)
