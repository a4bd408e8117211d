use Rattle.std.proofs.Common.{rules, ◌≡◌, ◌≤◌, All, length, get_or, subst, refl, take_all}
use Rattle.std.proofs.lemmas.List.Elements.{All-more}
use Rattle.column_store.specs.declared.row.Row.{Row}
use Rattle.archive_machine.specs.Machine.{IsSaved}
use Rattle.archive_machine.proofs.machine.are_saved.Goals as goal

pub loop-row-preserved : goal.loop-row-preserved
loop-row-preserved c =
    let rows = c.args.rows.now in
    let item : Row = c.row-item.result in
    let here : item ≡ get_or rows c.loop-row.row-index item = search rules in
    let saved : IsSaved c.args.types.now c.args.saved_types c.args.saved_words item = c.in_ok-is_saved.ensures.0 (search rules) in
    All-more (IsSaved c.args.types.now c.args.saved_types c.args.saved_words) rows c.loop-row.row-index item (search rules) c.loop-row.invariant
    (subst (IsSaved c.args.types.now c.args.saved_types c.args.saved_words) here saved)

pub returns : goal.returns
returns c =
    let rows = c.args.rows.now in
    let end : length rows ≤ c.loop-row.row-index = search rules in
    (λ yes. subst (All (IsSaved c.args.types.now c.args.saved_types c.args.saved_words)) (take_all c.loop-row.row-index rows end) c.loop-row.invariant, λ all. refl)
