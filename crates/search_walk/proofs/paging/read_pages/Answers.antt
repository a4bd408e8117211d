use Rattle.std.proofs.Common.{[], List, Option, rules, subst, ℕ}
use Rattle.search_walk.specs.Held.{Named}
use Rattle.search_walk.specs.PagesRead.{IsOfPage}
use Rattle.search_walk.specs.Walked.{WentOverPages}
use Rattle.search_walk.proofs.AnswerLemmas.{on_err}
use Rattle.search_walk.proofs.PageLemmas.{left_all}
use Rattle.search_walk.proofs.PagesReadLemmas.{columns_such, such_on}
use Rattle.search_walk.proofs.PassLemmas.{known_ahead}
use Rattle.search_walk.proofs.paging.read_pages.Goals as goal

pub returns-in_err-told-clause-reads : goal.returns-in_err-told-clause-reads
returns-in_err-told-clause-reads g c = columns_such c.args.context.now.names c.args.pages (g.D.Disk.state c.args.disk.now) (g.D.Disk.state c.read_ahead.new.disk) c.read_ahead.ensures.reads

pub returns-in_err-told-clause-went : goal.returns-in_err-told-clause-went
returns-in_err-told-clause-went g c =
    let n : Named = c.args.context.now.names in
    let q = c.args.context.now.query in
    let w = c.args.work.now in
    record {
      done = search rules;
      stopped = on_err c.from_residual.result _
          (left_all (g.W.TakesPages.halts w w n q) (g.D.Disk.state c.args.disk.now).seen c.args.pages n c.args.label.name.now c.args.label.number (λ xs. g.met.W.TakesPages.stops_within w w n q [] xs (g.met.W.TakesPages.stops_here w n q)));
      damaged = search rules;
    }

pub take_pages-requires-clause-begins : goal.take_pages-requires-clause-begins
take_pages-requires-clause-begins g c = (c.requires.first, c.requires.small)

pub take_pages-requires-clause-known : goal.take_pages-requires-clause-known
take_pages-requires-clause-known g c =
    known_ahead c.known_of-known.result (λ types. types.now) _ (g.D.Disk.state c.args.disk.now).seen (g.D.Disk.state c.read_ahead.new.disk).seen c.args.pages c.args.context.now.names c.args.context.now.query _ _ c.read_ahead.ensures.reads.rests.seen
    c.as_slice.ensures.value c.known_of-known.ensures.told c.known_of-known.ensures.kept c.in_ok-told.ensures.told

pub returns-clause-reads : goal.returns-clause-reads
returns-clause-reads g c =
    let n : Named = c.args.context.now.names in
    such_on (IsOfPage n c.args.pages) (g.D.Disk.state c.args.disk.now) (g.D.Disk.state c.read_ahead.new.disk) (g.D.Disk.state c.take_pages.new.disk)
    (columns_such n c.args.pages (g.D.Disk.state c.args.disk.now) (g.D.Disk.state c.read_ahead.new.disk) c.read_ahead.ensures.reads) c.take_pages.ensures.reads

pub returns-clause-went : goal.returns-clause-went
returns-clause-went g c =
    let n : Named = c.args.context.now.names in
    let q = c.args.context.now.query in
    let w = c.args.work.now in
    let d = c.take_pages.new.work in
    subst (λ (s : Option (List ℕ)). WentOverPages (g.W.TakesPages.reaches w d n q) (g.W.TakesPages.halts w d n q) (g.W.TakesPages.stands w n) s c.args.pages n c.args.label.name.now c.args.label.number c.take_pages.result) c.read_ahead.ensures.reads.rests.seen c.take_pages.ensures.went
