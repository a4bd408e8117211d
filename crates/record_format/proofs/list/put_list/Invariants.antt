use Rattle.std.proofs.Common.{◌≡◌, ◌++◌, length, take}
use Rattle.std.specs.List.{flat_map}
use Rattle.record_format.specs.Lists.{four_bytes, text_bytes}
use Rattle.record_format.proofs.list.put_list.Given as goal

abbrev pub invariant-loop-text : goal.invariant-loop-text
invariant-loop-text l = l.out.items ≡ l.fn.out.items ++ (four_bytes (length l.texts) ++ flat_map text_bytes (take l.text-index l.texts))
