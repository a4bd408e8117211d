use Rattle.std.proofs.Common.{◌≡◌, map, take}
use Rattle.file_lines.specs.Directory.{directory_from}
use Rattle.sink_pieces.specs.Output.{Gathers}
use Rattle.file_lines.proofs.directory.print_directory.Given as goal

abbrev pub invariant-loop-index : goal.invariant-loop-index
invariant-loop-index g l =
    Gathers (g.K.Sink.written l.fn.out) (g.K.Sink.written l.out) l.gathered.items (directory_from l.first (map g.F.Listed.listed (take l.index l.files)))
    × (g.K.Sink.faults l.out ≡ g.K.Sink.faults l.fn.out)
