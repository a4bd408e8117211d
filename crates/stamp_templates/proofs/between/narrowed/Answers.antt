use Rattle.std.proofs.Common.{◌≡◌, arith, of_z, rules, to_z, w64}
use Rattle.std.proofs.lemmas.Int.{ints}
use Rattle.stamp_templates.proofs.between.narrowed.Goals as goal

pub returns-then-high-low-clause-none : goal.returns-then-high-low-clause-none
returns-then-high-low-clause-none c = λ _ m is from to.
    let range = c.printed_by-printed.ensures.range m is in
    let least : to_z w64 (of_z w64 c.args.least) ≡ c.args.least = search rules in
    let greatest : to_z w64 (of_z w64 c.args.greatest) ≡ c.args.greatest = search rules in
    let first : to_z w64 (of_z w64 c.printed_by-printed.result.first) ≡ c.printed_by-printed.result.first = search rules in
    let end : to_z w64 (of_z w64 c.printed_by-printed.result.end) ≡ c.printed_by-printed.result.end = search rules in
    let low = c.later-low.ensures.least m (rw least from) (rw first range.0) in
    let high = c.earlier-high.ensures.greatest m (rw greatest to) (rw end (omega (arith, ints, range.1))) in
    omega (arith, ints, c.if-high-low.true, low, high)

pub returns-clause-some : goal.returns-clause-some
returns-clause-some c = λ m is from to.
    let range = c.printed_by-printed.ensures.range m is in
    let least : to_z w64 (of_z w64 c.args.least) ≡ c.args.least = search rules in
    let greatest : to_z w64 (of_z w64 c.args.greatest) ≡ c.args.greatest = search rules in
    let below : to_z w64 (of_z w64 c.whole_below.result) ≡ c.whole_below.result = search rules in
    let above : to_z w64 (of_z w64 c.whole_above.result) ≡ c.whole_above.result = search rules in
    let first : to_z w64 (of_z w64 c.printed_by-printed.result.first) ≡ c.printed_by-printed.result.first = search rules in
    let end : to_z w64 (of_z w64 c.printed_by-printed.result.end) ≡ c.printed_by-printed.result.end = search rules in
    let low = c.later-low.ensures.least m (rw least from) (rw first range.0) in
    let high = c.earlier-high.ensures.greatest m (rw greatest to) (rw end (omega (arith, ints, range.1))) in
    (rw below (omega (arith, ints, c.whole_below.ensures.le, low)), rw above (omega (arith, ints, c.whole_above.ensures.le, high)))
