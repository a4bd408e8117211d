use Rattle.search_walk.specs.PagesRead.{IsOfPage}
use Rattle.search_walk.proofs.PagesReadLemmas.{columns_such, such_none}
use Rattle.search_walk.proofs.passing.pass_next.Goals as goal

pub returns-in-Ok-clause-reads : goal.returns-in-Ok-clause-reads
returns-in-Ok-clause-reads g c = columns_such c.args.context.now.names c.args.pages.now (g.D.Disk.state c.args.disk.now) (g.D.Disk.state c.pass_page.new.disk) c.pass_page.ensures.reads

pub returns-in-Err-DiskFault-clause-reads : goal.returns-in-Err-DiskFault-clause-reads
returns-in-Err-DiskFault-clause-reads g c = columns_such c.args.context.now.names c.args.pages.now (g.D.Disk.state c.args.disk.now) (g.D.Disk.state c.pass_page.new.disk) c.pass_page.ensures.reads

pub returns-in-Err-clause-reads : goal.returns-in-Err-clause-reads
returns-in-Err-clause-reads g c = columns_such c.args.context.now.names c.args.pages.now (g.D.Disk.state c.args.disk.now) (g.D.Disk.state c.pass_page.new.disk) c.pass_page.ensures.reads

pub returns-in_default-clause-reads : goal.returns-in_default-clause-reads
returns-in_default-clause-reads g c = such_none (IsOfPage c.args.context.now.names c.args.pages.now) (g.D.Disk.state c.args.disk.now)
