use Rattle.std.proofs.Common.{take}
use Rattle.wild_match.proofs.Reading.{IsRead}
use Rattle.wild_match.proofs.read.read_pattern.Given as goal

-- the bytes so far are read
abbrev pub invariant-loop-byte : goal.invariant-loop-byte
invariant-loop-byte l = IsRead (take l.byte-index l.text) l.escaped l.items.items
