use Rattle.std.proofs.Common.{◌≡◌, take, min}
use Rattle.disk_seal.specs.Pieces.{size_of}
use Rattle.disk_seal.proofs.plan.need_of.Given as goal

abbrev pub invariant-loop-piece : goal.invariant-loop-piece
invariant-loop-piece l = l.need ≡ min (size_of (take l.piece-index l.pieces)) 18446744073709551615
