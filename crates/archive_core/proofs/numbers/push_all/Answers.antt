use Rattle.std.proofs.Common.{rules, ℕ, List, ◌++◌, ◌∙◌, All, ap, subst, sym, ◌^◌, ◌<◌}
use Rattle.column_store.specs.Row.{row_of}
use Rattle.row_codec.specs.Numbers.{numbers_of_row}
use Rattle.archive_core.proofs.NumbersLemmas.{flat_map_more, part_of_all, slot_numbers}
use Rattle.archive_core.proofs.numbers.push_all.Goals as goal

pub returns-then-not-branch-clause-none : goal.returns-then-not-branch-clause-none
returns-then-not-branch-clause-none g c = λ is texts known all.
    let row = row_of c.at-row.result in
    let here = part_of_all (λ n. n < 2 ^ 32) (numbers_of_row texts) (g.R.Rows.rows c.args.rows.now) c.loop-place.place row c.at-row.ensures all in
    c.in_ok-push_slots.ensures.none (search rules) (subst (All (λ n. n < 2 ^ 32)) (sym (slot_numbers texts row c.slots_at.result.now (c.slots_at.ensures texts known))) here)

pub loop-place-preserved : goal.loop-place-preserved
loop-place-preserved g c = λ texts known.
    let row = row_of c.at-row.result in
    c.in_ok-push_slots.ensures.yes (search rules)
    ∙ ap (λ l. c.loop-place.out.items ++ l) (slot_numbers texts row c.slots_at.result.now (c.slots_at.ensures texts known))
    ∙ ap (λ (l : List ℕ). l ++ numbers_of_row texts row) (c.loop-place.invariant texts known)
    ∙ sym (flat_map_more (numbers_of_row texts) (g.R.Rows.rows c.args.rows.now) c.loop-place.place row c.at-row.ensures)
