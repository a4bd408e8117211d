-- What the bytes before this one read as.
use Rattle.std.proofs.Common.{take}
use Rattle.var_codec.specs.Digits.{Reads}
use Rattle.var_codec.proofs.reading.read_digits.Given as goal

abbrev pub invariant-loop-i : goal.invariant-loop-i
invariant-loop-i l = Reads (take l.i l.bytes) l.number l.point
