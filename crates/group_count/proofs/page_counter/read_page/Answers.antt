use Rattle.std.proofs.Common.{rules}
use Rattle.search_walk.proofs.PageLemmas.{none_damaged}
use Rattle.search_walk.proofs.PagesReadLemmas.{page_such}
use Rattle.group_count.proofs.page_counter.read_page.Goals as goal

pub next_page-requires : goal.next_page-requires
next_page-requires g c = c.requires.next.page

pub returns-in_err-room-clause-damaged : goal.returns-in_err-room-clause-damaged
returns-in_err-room-clause-damaged g c = λ is. none_damaged _ c.args.pages.now c.args.context.now.names (c.in_err-room.ensures.damaged (search rules))

pub returns-in_err-decide_rows-clause-reads : goal.returns-in_err-decide_rows-clause-reads
returns-in_err-decide_rows-clause-reads g c =
    page_such c.args.context.now.names c.args.pages.now (g.D.Disk.state c.args.disk.now) (g.D.Disk.state c.next_page.new.disk) _ c.next_page.ensures.reads c.decide_rows.ensures.rests c.decide_rows.ensures.reads

pub returns-clause-reads : goal.returns-clause-reads
returns-clause-reads g c =
    page_such c.args.context.now.names c.args.pages.now (g.D.Disk.state c.args.disk.now) (g.D.Disk.state c.next_page.new.disk) _ c.next_page.ensures.reads c.decide_rows.ensures.rests c.decide_rows.ensures.reads

pub returns-clause-page : goal.returns-clause-page
returns-clause-page g c = record {
  ready = record { serves = c.decide_rows.ensures.serves; each = c.in_ok-decide_rows.ensures.ready };
  next = c.in_ok-room.ensures.page;
  after = c.in_ok-room.ensures.after;
  count = c.in_ok-room.ensures.count;
}
