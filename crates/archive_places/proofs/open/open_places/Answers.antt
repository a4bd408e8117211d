use Rattle.std.proofs.Common.{rules}
use Rattle.std.proofs.lemmas.Result.{err_from_is_err_and}
use Rattle.archive_open.proofs.OpenLemmas.{all_spared, header_spared, start_refused}
use Rattle.archive_open.proofs.ReadLemmas.{start_damaged_from}
use Rattle.archive_places.proofs.open.open_places.Goals as goal

pub returns-in_err-header-clause-ranges : goal.returns-in_err-header-clause-ranges
returns-in_err-header-clause-ranges g c = header_spared (g.D.Disk.state c.args.disk.now) (g.D.Disk.state c.start.new.disk) c.start.ensures.ranges

pub returns-in_err-header-clause-damaged : goal.returns-in_err-header-clause-damaged
returns-in_err-header-clause-damaged g c = λ at is.
    let p = err_from_is_err_and c.from_residual.result c.from_residual.ensures.1 in
    start_refused at (g.D.Disk.state c.args.disk.now) (c.in_err-header.ensures.damaged at (search (rules, is, p.1, p.2, start_damaged_from)))

pub returns-clause-ranges : goal.returns-clause-ranges
returns-clause-ranges g c = all_spared (g.D.Disk.state c.args.disk.now) (g.D.Disk.state c.start.new.disk) _ c.start.ensures.keeps c.start.ensures.ranges (search rules)
