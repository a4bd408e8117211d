use Rattle.std.proofs.Common.{List, ℕ, subst}
use Rattle.std.specs.Int.{w64}
use Rattle.std.proofs.lemmas.Int.{to_z-of_z}
use Rattle.subquery_filter.specs.Filter.{RunMarks}
use Rattle.subquery_filter.proofs.StampLemmas.{stamp_is}
use Rattle.subquery_filter.proofs.run_stamps.stamp_runs.Goals as goal

pub returns-in-Some : goal.returns-in-Some
returns-in-Some c = λ s may stamped.
    let prints = rw (to_z-of_z w64 c.args.moment c.ranges.moment) at c.in-Some.ensures.text in
    let same = stamp_is c.moment_tells_text.ensures c.patterns_print_whole_moments.ensures c.args.pattern c.args.moment _ s prints stamped in
    subst (λ (t : List ℕ). RunMarks c.args.runs.now t c.run_marks.result) same c.run_marks.ensures
