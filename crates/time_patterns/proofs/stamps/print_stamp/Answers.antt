use Rattle.std.proofs.Common.{to_z-of_z}
use Rattle.time_patterns.proofs.PlaceLemmas.{IsForm_sound}
use Rattle.time_patterns.proofs.PrintedLemmas.{four_digits_of}
use Rattle.time_patterns.proofs.StampLemmas.{printable}
use Rattle.time_patterns.proofs.stamps.print_stamp.Goals as goal

pub time-requires : goal.time-requires
time-requires c = IsForm_sound c.args.pattern c.in-Some.form c.in-Some.ensures.some

pub print-requires-clause-sound : goal.print-requires-clause-sound
print-requires-clause-sound c = IsForm_sound c.args.pattern c.in-Some.form c.in-Some.ensures.some

pub print-requires-clause-shown : goal.print-requires-clause-shown
print-requires-clause-shown c =
    let e = rw (to_z-of_z c.ranges.moment) at c.in-Some-time.ensures.some in
    (printable c.args.pattern c.in-Some.form c.in-Some.ensures.some c.args.moment c.in-Some-time.time e).1 c.requires

pub returns-clause-text : goal.returns-clause-text
returns-clause-text c =
    let e = rw (to_z-of_z c.ranges.moment) at c.in-Some-time.ensures.some in
    let shown = (printable c.args.pattern c.in-Some.form c.in-Some.ensures.some c.args.moment c.in-Some-time.time e).1 c.requires in
    (c.in-Some.form, c.in-Some.ensures.some, (c.in-Some-time.time, e, shown, c.print.ensures.text))

pub date_digits-requires : goal.date_digits-requires
date_digits-requires c =
    let e = rw (to_z-of_z c.ranges.moment) at c.in-Some-time.ensures.some in
    four_digits_of c.in-Some.form c.in-Some-time.time ((printable c.args.pattern c.in-Some.form c.in-Some.ensures.some c.args.moment c.in-Some-time.time e).1 c.requires)
