use Rattle.std.proofs.Common.{◌≡◌, ◌≤◌, ◌*◌, sum}
use Rattle.segment_format.proofs.PagesLemmas.{numbers_in}
use Rattle.segment_format.proofs.pages.sum_in.Given as goal

abbrev pub invariant-loop-place : goal.invariant-loop-place
invariant-loop-place l = (l.total ≡ sum (numbers_in l.place l.bytes)) × (l.total ≤ 4294967295 * l.place)
