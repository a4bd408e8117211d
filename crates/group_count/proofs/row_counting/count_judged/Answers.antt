use Rattle.std.proofs.Common.{subst, sym, [], ◌∷◌}
use Rattle.column_store.specs.Row.{row_of}
use Rattle.group_count.specs.StepsCounted.{Adds, judged_more, judged_rows, sofar}
use Rattle.group_count.specs.StepsGoing.{adds_on}
use Rattle.group_count.proofs.row_counting.count_judged.Goals as goal

pub returns-in_ok-count_found-in-Found-clause-counted : goal.returns-in_ok-count_found-in-Found-clause-counted
returns-in_ok-count_found-in-Found-clause-counted g c =
    let row = row_of c.args.row in
    let a = sofar c.args.counts.now c.args.expanded.now in
    let b = sofar c.count_found.new.counts c.args.expanded.now in
    let e = sofar c.count_expanded-in-Found.new.counts c.count_expanded-in-Found.new.expanded in
    subst (λ j. Adds g.T.RowTable.counted (judged_rows j row) (judged_more j) a e) (sym c.in-Found.is)
    (adds_on g.T.RowTable.counted (row ∷ []) [] 0 1 a b e (c.in_ok-count_found-in-Found.ensures c.args.expanded.now) c.count_expanded-in-Found.ensures)
