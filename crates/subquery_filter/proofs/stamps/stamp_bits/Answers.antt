use Rattle.std.proofs.Common.{List, ℕ, subst}
use Rattle.std.specs.Int.{w64}
use Rattle.std.proofs.lemmas.Int.{to_z-of_z}
use Rattle.subquery_filter.specs.Filter.{StampMarks}
use Rattle.subquery_filter.proofs.StampLemmas.{stamp_is}
use Rattle.subquery_filter.proofs.stamps.stamp_bits.Goals as goal

pub returns-in-Some : goal.returns-in-Some
returns-in-Some c = λ s may stamped.
    let prints = rw (to_z-of_z w64 c.args.moment c.ranges.moment) at c.in-Some.ensures.text in
    let same = stamp_is c.moment_tells_text.ensures c.patterns_print_whole_moments.ensures c.args.pattern c.args.moment _ s prints stamped in
    subst (λ (t : List ℕ). StampMarks c.args.tokens.now t c.stamp_marks.result) same c.stamp_marks.ensures
