use Rattle.std.proofs.Common.{ap}
use Rattle.std.specs.Prelude.{is_ok}
use Rattle.std.proofs.lemmas.Result.{err_from_is_err_and}
use Rattle.count_command.proofs.CountingLemmas.{groups_half_told, groups_told, groups_untold}
use Rattle.count_command.proofs.count.print_groups.Goals as goal

pub returns-in_err-grouped-clause-prints : goal.returns-in_err-grouped-clause-prints
returns-in_err-grouped-clause-prints g c =
    let p = err_from_is_err_and c.from_residual.result c.from_residual.ensures.1 in
    groups_untold (is_ok c.from_residual.result) _ _ _ _ _ (ap is_ok p.1)

pub returns-in_err-text-clause-prints : goal.returns-in_err-text-clause-prints
returns-in_err-text-clause-prints g c =
    let p = err_from_is_err_and c.from_residual-in_err-text.result c.from_residual-in_err-text.ensures.1 in
    groups_untold (is_ok c.from_residual-in_err-text.result) _ _ _ _ _ (ap is_ok p.1)

pub returns-in_err-write_all-clause-prints : goal.returns-in_err-write_all-clause-prints
returns-in_err-write_all-clause-prints g c =
    let p = err_from_is_err_and c.from_residual-in_err-write_all.result c.from_residual-in_err-write_all.ensures.1 in
    groups_half_told (is_ok c.from_residual-in_err-write_all.result) _ _ _ _ _ _ c.in_ok-grouped.grouped c.in_ok-text.text.items (ap is_ok p.1) c.in_ok-grouped.ensures.counted c.in_ok-text.ensures (rw c.as_slice.ensures.value at c.in_err-write_all.ensures.err)

pub returns-clause-prints : goal.returns-clause-prints
returns-clause-prints g c =
    groups_told _ _ _ _ _ _ c.in_ok-grouped.grouped c.in_ok-text.text.items c.in_ok-grouped.ensures.counted c.in_ok-text.ensures (rw c.as_slice.ensures.value at c.in_ok-write_all.ensures.ok)
