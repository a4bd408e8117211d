use Rattle.std.proofs.Common.{◌<◌, ℕ, List, get_or}
use Rattle.barren_segments.specs.Runs.{HoldsRun}
use Rattle.subquery_filter.proofs.asking.holds_all.Given as goal

abbrev pub invariant-loop-word : goal.invariant-loop-word
invariant-loop-word l = (j : ℕ) (d : List ℕ) → j < l.word-index → HoldsRun l.text (get_or l.words j d)
