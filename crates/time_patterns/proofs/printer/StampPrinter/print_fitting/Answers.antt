use Rattle.std.proofs.Common.{take, to_z-of_z}
use Rattle.time_patterns.proofs.printer.StampPrinter.print_fitting.Goals as goal

pub returns-in_default-clause-misfit : goal.returns-in_default-clause-misfit
returns-in_default-clause-misfit c = λ _. rw (to_z-of_z c.ranges.moment) at c.in_default.ensures.none

pub returns-clause-printed : goal.returns-clause-printed
returns-clause-printed c = λ _.
    (take c.in-Some.len c.print_front.new.out, rw (to_z-of_z c.ranges.moment) at c.in-Some.ensures.text, c.in_ok-append_front.ensures.put)
