use Rattle.std.proofs.Common.{◌≡◌, ◌-◌, take, drop}
use Rattle.dict_core.proofs.texts.Texts.copy_from.Given as goal

abbrev pub invariant-loop-next : goal.invariant-loop-next
invariant-loop-next l = l.texts.items ≡ take (l.next - l.fn.number) (drop l.fn.number l.self)
