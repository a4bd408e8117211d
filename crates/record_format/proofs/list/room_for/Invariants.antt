use Rattle.std.proofs.Common.{◌≡◌, ◌+◌, length, take, min}
use Rattle.std.specs.List.{flat_map}
use Rattle.record_format.specs.Lists.{text_bytes}
use Rattle.record_format.proofs.list.room_for.Given as goal

abbrev pub invariant-loop-text : goal.invariant-loop-text
invariant-loop-text l = l.room ≡ min (4 + length (flat_map text_bytes (take l.text-index l.texts))) 18446744073709551615
