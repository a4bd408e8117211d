use Rattle.std.proofs.Common.{◌≡◌, ◌-◌, ◌≤ℤ◌, length, pos, arith, rules, FitsSigned, w64, to_z-of_z}
use Rattle.time_patterns.specs.CivilTime.{numbers_of}
use Rattle.time_patterns.specs.Forms.{first_year}
use Rattle.time_patterns.proofs.PlaceLemmas.{IsForm_sound}
use Rattle.time_patterns.proofs.StampLemmas.{Front, no_time, no_tail, first_fit, short_stamp}
use Rattle.time_patterns.proofs.TailLemmas.{ticks}
use Rattle.time_patterns.proofs.stamps.read.Goals as goal

pub returns-in_err-time-clause-none : goal.returns-in_err-time-clause-none
returns-in_err-time-clause-none c =
    let read = c.in_ok-numbers.ensures.some in
    let front : Front c.in_ok-shape.shape c.args.line.now c.in_ok-numbers.numbers c.in_ok-numbers.behind.now = record {
      only = c.in_ok-shape.ensures.only;
      read = read.0;
      within = read.1;
      six = read.2;
    } in
    let none = rw c.first_year.ensures at c.in_err-time.ensures.none in
    rw c.from_residual-in_err-time.ensures
    (no_time c.in_ok-shape.shape c.args.line.now c.in_ok-numbers.numbers c.in_ok-numbers.behind.now front none c.args.first c.args.end)

pub returns-in_err-tail-clause-none : goal.returns-in_err-tail-clause-none
returns-in_err-tail-clause-none c =
    let read = c.in_ok-numbers.ensures.some in
    let front : Front c.in_ok-shape.shape c.args.line.now c.in_ok-numbers.numbers c.in_ok-numbers.behind.now = record {
      only = c.in_ok-shape.ensures.only;
      read = read.0;
      within = read.1;
      six = read.2;
    } in
    rw c.from_residual-in_err-tail.ensures
    (no_tail c.in_ok-shape.shape c.args.line.now c.in_ok-numbers.numbers c.in_ok-numbers.behind.now front c.args.first c.args.end c.in_err-tail.ensures.none)

pub moment-requires : goal.moment-requires
moment-requires c =
    let found = c.in_ok-tail.ensures.some in
    rw (c.at_microsecond-time.ensures.microsecond, found.tick_is)
    (ticks found.form (IsForm_sound c.in_ok-tail.tail.pattern found.form found.is) c.in_ok-tail.tail.microsecond found.tail.whole)

pub overflow_cast-result : goal.overflow_cast-result
overflow_cast-result c =
    let read = c.in_ok-numbers.ensures.some in
    let front : Front c.in_ok-shape.shape c.args.line.now c.in_ok-numbers.numbers c.in_ok-numbers.behind.now = record {
      only = c.in_ok-shape.ensures.only;
      read = read.0;
      within = read.1;
      six = read.2;
    } in
    let tail = c.in_ok-tail.tail in
    let short = short_stamp c.in_ok-shape.shape c.args.line.now c.in_ok-numbers.numbers c.in_ok-numbers.behind.now front
    c.args.first c.args.end tail.pattern tail.tick tail.microsecond tail.rest.now c.in_ok-tail.ensures.some in
    omega arith

pub returns-clause-some : goal.returns-clause-some
returns-clause-some c =
    let read = c.in_ok-numbers.ensures.some in
    let front : Front c.in_ok-shape.shape c.args.line.now c.in_ok-numbers.numbers c.in_ok-numbers.behind.now = record {
      only = c.in_ok-shape.ensures.only;
      read = read.0;
      within = read.1;
      six = read.2;
    } in
    let shape = c.in_ok-shape.shape in
    let tail = c.in_ok-tail.tail in
    let t = c.at_microsecond-time.result in
    let at = c.at_microsecond-time.ensures in
    let time = c.in_ok-time.ensures.some in
    let from : pos (first_year shape) ≤ℤ t.date.year = rw (at.date, ← c.first_year.ensures) time.0 in
    let same : numbers_of (first_year shape) t ≡ c.in_ok-numbers.numbers = rw (at.date, at.hour, at.minute, at.second, ← c.first_year.ensures) time.1 in
    let short = short_stamp shape c.args.line.now c.in_ok-numbers.numbers c.in_ok-numbers.behind.now front
    c.args.first c.args.end tail.pattern tail.tick tail.microsecond tail.rest.now c.in_ok-tail.ensures.some in
    let fits : FitsSigned w64 c.moment.result = search rules in
    rw (to_z-of_z fits)
    (first_fit shape c.args.line.now c.in_ok-numbers.numbers c.in_ok-numbers.behind.now front t from same
    c.args.first c.args.end tail.pattern tail.tick tail.microsecond tail.rest.now c.in_ok-tail.ensures.some at.microsecond
    c.moment.result c.moment.ensures (length c.args.line.now - length tail.rest.now) (omega arith))
