use Rattle.std.proofs.Common.{to_z-of_z}
use Rattle.time_patterns.proofs.printer.StampPrinter.print.Goals as goal

pub unreachable-requires : goal.unreachable-requires
unreachable-requires c =
    let misfit = rw (to_z-of_z c.ranges.moment) at c.in_ok-print_fitting.ensures.misfit in
    misfit c.if-not-branch.true c.requires

pub returns-clause-printed : goal.returns-clause-printed
returns-clause-printed c =
    let printed = rw (to_z-of_z c.ranges.moment) at c.in_ok-print_fitting.ensures.printed in
    printed c.if-not-branch.false
