use Rattle.std.proofs.Common.{◌<◌, ◌∙◌, [], arith, rules, refl}
use Rattle.segment_pages.proofs.PageLemmas.{none_left}
use Rattle.search_walk.specs.Held.{Named}
use Rattle.search_walk.proofs.AnswerLemmas.{if_some_to, on_err}
use Rattle.search_walk.proofs.PageLemmas.{pages_first, pages_next, pages_reads, past_damaged, past_end, past_stops}
use Rattle.search_walk.proofs.PassLemmas.{known_here}
use Rattle.search_walk.proofs.paging.take_pages.Goals as goal

pub loop-pages-init : goal.loop-pages-init
loop-pages-init g c =
    let n : Named = c.args.context.now.names in
    let q = c.args.context.now.query in
    let w = c.args.work.now in
    (pages_first (g.W.TakesPages.reaches w w n q) (g.D.Disk.state c.args.disk.now) c.args.pages n c.args.label.name.now c.args.label.number (g.met.W.TakesPages.passes_over w n q [] refl refl) c.requires.begins.0, refl, refl, c.requires.served)

pub returns-in_err-rows-clause-reads : goal.returns-in_err-rows-clause-reads
returns-in_err-rows-clause-reads g c = pages_reads _ _ _ _ _ c.args.pages c.loop-pages.pages _ c.args.label.name.now c.args.label.number c.loop-pages.at c.loop-pages.invariant.0 c.take_next.ensures.reads

pub returns-in_err-rows-clause-went : goal.returns-in_err-rows-clause-went
returns-in_err-rows-clause-went g c =
    let n : Named = c.args.context.now.names in
    let q = c.args.context.now.query in
    let a = c.args.work.now in
    let b = c.loop-pages.work in
    let d = c.take_next.new.work in
    record {
      done = search rules;
      stopped = on_err c.from_residual.result _
          (past_stops (g.W.TakesPages.reaches a b n q) (g.W.TakesPages.halts b d n q) (g.W.TakesPages.halts a d n q) _ _ c.args.pages c.loop-pages.pages n c.args.label.name.now c.args.label.number c.loop-pages.at c.loop-pages.pages.pages.row
          (λ xs ys f h. g.met.W.TakesPages.stops_behind a b d n q xs ys f h)
          c.loop-pages.invariant.0.reads.rests.seen c.loop-pages.invariant.0.place c.loop-pages.invariant.0.past c.in_err-rows.ensures.stopped);
      damaged = λ is stands.
          past_damaged (g.W.TakesPages.reaches a b n q) (g.W.TakesPages.stands b n) _ _ c.args.pages c.loop-pages.pages n c.args.label.name.now c.args.label.number c.loop-pages.pages.pages.row (λ xs f. g.met.W.TakesPages.stands_on a b n q xs f stands)
          c.loop-pages.invariant.0.reads.rests.seen c.loop-pages.invariant.0.past (c.in_err-rows.ensures.damaged (search rules));
    }

pub loop-pages-preserved : goal.loop-pages-preserved
loop-pages-preserved g c =
    let n : Named = c.args.context.now.names in
    let q = c.args.context.now.query in
    let a = c.args.work.now in
    let b = c.loop-pages.work in
    let d = c.take_next.new.work in (
      pages_next (g.W.TakesPages.reaches a b n q) (g.W.TakesPages.reaches b d n q) (g.W.TakesPages.reaches a d n q) _ (g.D.Disk.state c.loop-pages.disk) (g.D.Disk.state c.take_next.new.disk) c.args.pages c.loop-pages.pages c.take_next.new.pages n
          c.args.label.name.now c.args.label.number c.loop-pages.at _ c.in_ok-rows.rows (λ xs ys f r. g.met.W.TakesPages.goes_on a b d n q xs ys f r)
          c.loop-pages.invariant.0 c.take_next.ensures.reads (search rules) c.in_ok-rows.ensures.gone (search rules) c.in_ok-rows.ensures.done,
      search rules,
      search rules,
      search rules,
    )

pub returns-clause-went : goal.returns-clause-went
returns-clause-went g c = record {
  done =
      past_end (g.W.TakesPages.reaches c.args.work.now c.loop-pages.work c.args.context.now.names c.args.context.now.query) _ c.args.pages c.loop-pages.pages _ c.args.label.name.now c.args.label.number c.loop-pages.pages.pages.row none_left (search rules)
      c.loop-pages.invariant.0.past;
  stopped = tt;
  damaged = search rules;
}

pub take_next-requires-clause-left : goal.take_next-requires-clause-left
take_next-requires-clause-left g c =
    let page : c.loop-pages.pages.pages.row < c.loop-pages.pages.pages.rows = search rules in
    record { page = page; fits = omega (arith, page, c.loop-pages.invariant.0.place, c.loop-pages.invariant.0.same.2, c.requires.begins.1) }

pub take_next-requires-clause-ready : goal.take_next-requires-clause-ready
take_next-requires-clause-ready g c = (c.loop-pages.invariant.3, c.loop-pages.invariant.0.reads.rests.seen ∙ c.requires.told)

pub take_next-requires-clause-ahead : goal.take_next-requires-clause-ahead
take_next-requires-clause-ahead g c =
    let n : Named = c.args.context.now.names in
    let q = c.args.context.now.query in
    let past = c.loop-pages.invariant.0 in
    if_some_to c.args.known _ _
    (λ types ahead. known_here (g.W.TakesPages.reaches c.args.work.now c.loop-pages.work n q) (g.D.Disk.state c.args.disk.now).seen (g.D.Disk.state c.loop-pages.disk).seen (g.D.Disk.state c.args.disk.now) (g.D.Disk.state c.loop-pages.disk) c.args.pages
    c.loop-pages.pages n q c.args.label.name.now c.args.label.number c.loop-pages.at _ types.now past.reads.rests.seen c.requires.begins.0 (search rules) refl past ahead) c.requires.known
