use Rattle.std.proofs.Common.{◌≡◌, ◌-◌}
use Rattle.log_commands.proofs.CutterLemmas.{IsPrinting}
use Rattle.log_commands.proofs.log.print_messages.Given as goal

abbrev pub invariant-loop-number : goal.invariant-loop-number
invariant-loop-number g l =
    IsPrinting (g.T.MessageText.tells l.teller) g.S.Source.left (g.S.Source.left l.fn.cutter.source) (g.K.Sink.written l.fn.out) (g.K.Sink.written l.out) l.gathered.items l.cutter l.number
    × (g.S.Source.name l.cutter.source ≡ g.S.Source.name l.fn.cutter.source)
    × (g.S.Source.faults l.cutter.source ≡ g.S.Source.faults l.fn.cutter.source)
    × (g.K.Sink.faults l.out ≡ g.K.Sink.faults l.fn.out)

abbrev pub decreases-loop-number : goal.decreases-loop-number
decreases-loop-number g l = l.cutter.max_lines - l.cutter.given
