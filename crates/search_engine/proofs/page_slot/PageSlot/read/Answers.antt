use Rattle.std.proofs.Common.{rules}
use Rattle.word_places.proofs.HeldLemmas.{grow_same}
use Rattle.search_walk.specs.Ready.{IsReady}
use Rattle.search_walk.proofs.PageLemmas.{none_damaged}
use Rattle.search_walk.proofs.PagesReadLemmas.{page_such}
use Rattle.search_walk.proofs.ReadyLemmas.{zip_long}
use Rattle.search_engine.proofs.page_slot.PageSlot.read.Goals as goal

pub returns-in_err-extend_from_slice-clause-grow : goal.returns-in_err-extend_from_slice-clause-grow
returns-in_err-extend_from_slice-clause-grow g c = grow_same c.args.held.now.records

pub returns-in_err-columns-clause-grow : goal.returns-in_err-columns-clause-grow
returns-in_err-columns-clause-grow g c = grow_same c.args.held.now.records

pub returns-in_err-columns-clause-damaged : goal.returns-in_err-columns-clause-damaged
returns-in_err-columns-clause-damaged g c = λ is. none_damaged _ c.args.pages.now c.args.context.now.names (c.in_err-columns.ensures.damaged (search rules))

pub returns-in_err-decide_rows-clause-reads : goal.returns-in_err-decide_rows-clause-reads
returns-in_err-decide_rows-clause-reads g c =
    page_such c.args.context.now.names c.args.pages.now (g.D.Disk.state c.args.disk.now) (g.D.Disk.state c.next_page.new.disk) _ c.next_page.ensures.reads c.decide_rows.ensures.rests c.decide_rows.ensures.reads

pub invariant_of-result : goal.invariant_of-result
invariant_of-result g c = (search rules, zip_long (IsReady c.args.context.now.names c.args.context.now.query c.decide_rows.new.held.records) c.in_ok-columns.columns.rows _ c.in_ok-decide_rows.ensures.ready)

pub returns-clause-reads : goal.returns-clause-reads
returns-clause-reads g c =
    page_such c.args.context.now.names c.args.pages.now (g.D.Disk.state c.args.disk.now) (g.D.Disk.state c.next_page.new.disk) _ c.next_page.ensures.reads c.decide_rows.ensures.rests c.decide_rows.ensures.reads

pub returns-clause-page : goal.returns-clause-page
returns-clause-page g c = record {
  is = search rules;
  ready = record { serves = c.decide_rows.ensures.serves; each = c.in_ok-decide_rows.ensures.ready };
  next = c.in_ok-columns.ensures.page;
  after = c.in_ok-columns.ensures.after;
  count = c.in_ok-columns.ensures.count;
}
