use Rattle.std.proofs.Common.{to_z-of_z}
use Rattle.time_patterns.proofs.PlaceLemmas.{IsForm_sound}
use Rattle.time_patterns.proofs.StampLemmas.{printable}
use Rattle.time_patterns.proofs.stamps.stamp_ok.Goals as goal

pub time-requires : goal.time-requires
time-requires c = IsForm_sound c.args.pattern c.in-Some.form c.in-Some.ensures.some

pub shows-requires : goal.shows-requires
shows-requires c = IsForm_sound c.args.pattern c.in-Some.form c.in-Some.ensures.some

pub returns-in-Some-time : goal.returns-in-Some-time
returns-in-Some-time c =
    let e = rw (to_z-of_z c.ranges.moment) at c.in-Some-time.ensures.some in
    let prints = printable c.args.pattern c.in-Some.form c.in-Some.ensures.some c.args.moment c.in-Some-time.time e in
    (λ h. prints.0 (c.shows.ensures.0 h), λ h. c.shows.ensures.1 (prints.1 h))
