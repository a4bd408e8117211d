use Rattle.std.proofs.Common.{to_z-of_z}
use Rattle.time_patterns.proofs.PlaceLemmas.{IsForm_sound}
use Rattle.time_patterns.proofs.PrintedLemmas.{unprinted_unshown}
use Rattle.time_patterns.proofs.StampLemmas.{printable}
use Rattle.time_patterns.proofs.printer.StampPrinter.print_front.Goals as goal

pub time_of-requires : goal.time_of-requires
time_of-requires c = IsForm_sound c.args.pattern c.in_ok-form.form c.in_ok-form.ensures.some

pub returns-in_err-time-clause-none : goal.returns-in_err-time-clause-none
returns-in_err-time-clause-none c =
    let none = rw (to_z-of_z c.ranges.moment) at c.in_err-time.ensures.none in
    rw c.from_residual-in_err-time.ensures (unprinted_unshown c.args.pattern c.in_ok-form.form c.in_ok-form.ensures.some c.args.moment none)

pub shows-requires : goal.shows-requires
shows-requires c = IsForm_sound c.args.pattern c.in_ok-form.form c.in_ok-form.ensures.some

pub returns-then-not-shows-clause-none : goal.returns-then-not-shows-clause-none
returns-then-not-shows-clause-none c = λ printed.
    let e = rw (to_z-of_z c.ranges.moment) at c.in_ok-time.ensures.time in
    let shown = c.shows.ensures.1 ((printable c.args.pattern c.in_ok-form.form c.in_ok-form.ensures.some c.args.moment _ e).1 printed) in
    cc (shown, c.if-not-shows.true)

pub print-requires-clause-sound : goal.print-requires-clause-sound
print-requires-clause-sound c = IsForm_sound c.args.pattern c.in_ok-form.form c.in_ok-form.ensures.some

pub returns-clause-text : goal.returns-clause-text
returns-clause-text c =
    let e = rw (to_z-of_z c.ranges.moment) at c.in_ok-time.ensures.time in
    (c.in_ok-form.form, c.in_ok-form.ensures.some, (_, e, c.shows.ensures.0 c.if-not-shows.false, c.print.ensures.text))
