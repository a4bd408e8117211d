use Rattle.std.proofs.lemmas.Result.{err_from_is_err_and}
use Rattle.read_commands.proofs.DirectoryLemmas.{directory_done, directory_failed}
use Rattle.read_commands.proofs.list_files.files.Goals as goal

pub returns-in_err-print_directory-clause-prints : goal.returns-in_err-print_directory-clause-prints
returns-in_err-print_directory-clause-prints g c =
    let p = err_from_is_err_and c.from_residual-in_err-print_directory.result c.from_residual-in_err-print_directory.ensures.1 in
    directory_failed _ _ _ _ _ p.0 p.1 c.in_ok-places.ensures.opened (rw (c.as_slice.ensures) at c.in_err-print_directory.ensures.err)

pub returns-clause-prints : goal.returns-clause-prints
returns-clause-prints g c = directory_done _ _ _ _ c.in_ok-places.ensures.opened (rw (c.as_slice.ensures) at c.in_ok-print_directory.ensures.ok)
