use Rattle.std.proofs.Common.{◌≡◌, ◌<◌, ◌∙◌, arith, length, refl, rules}
use Rattle.log_seams.proofs.MomentLemmas.{rests_on}
use Rattle.word_places.proofs.HeldLemmas.{grow_on, grow_same}
use Rattle.word_places.proofs.ReadLemmas.{words_none, words_on}
use Rattle.search_walk.specs.Held.{IsTold}
use Rattle.search_walk.specs.Ready.{IsDecided}
use Rattle.search_walk.proofs.PagesReadLemmas.{rests_same}
use Rattle.search_walk.proofs.ReadyLemmas.{rows_all, rows_more, rows_ready, zip_at, zip_long}
use Rattle.search_walk.proofs.deciding.hold_rows.Goals as goal

pub returns-then-known-clause-grow : goal.returns-then-known-clause-grow
returns-then-known-clause-grow g c = grow_same c.args.held.now.records

pub returns-then-known-clause-ready : goal.returns-then-known-clause-ready
returns-then-known-clause-ready g c = rows_ready c.args.context.now.names c.args.context.now.query c.args.held.now c.args.page.now.rows c.args.verdicts.now c.requires.serves.kept c.requires.decided (c.requires.known (search rules))

pub loop-place-init : goal.loop-place-init
loop-place-init g c = record {
  rests = rests_same (g.D.Disk.state c.args.disk.now);
  faults = refl;
  reads = words_none c.args.context.now.names.places (g.D.Disk.state c.args.disk.now) (g.D.Disk.state c.args.disk.now) refl;
  serves = c.requires.serves;
  grow = grow_same c.args.held.now.records;
  ready = tt;
}

pub verdict_at-verdict-requires : goal.verdict_at-verdict-requires
verdict_at-verdict-requires g c =
    let long : length c.args.verdicts.now ≡ length c.args.page.now.rows =
    zip_long (λ row v. IsTold c.args.context.now.names → IsDecided c.args.context.now.names c.args.context.now.query row v) c.args.page.now.rows c.args.verdicts.now c.requires.decided in
    let here : c.loop-place.place < length c.args.page.now.rows = search rules in
    omega (arith, long, here)

pub hold_row-requires : goal.hold_row-requires
hold_row-requires g c = record {
  decided = zip_at (λ row v. IsTold c.args.context.now.names → IsDecided c.args.context.now.names c.args.context.now.query row v) c.args.page.now.rows c.args.verdicts.now c.loop-place.place _ _ c.requires.decided c.row.ensures c.verdict_at-verdict.ensures;
  serves = c.loop-place.invariant.serves;
  told = c.loop-place.invariant.rests.seen ∙ c.requires.told;
}

pub loop-place-preserved : goal.loop-place-preserved
loop-place-preserved g c = record {
  rests = rests_on _ (g.D.Disk.state c.loop-place.disk) _ c.loop-place.invariant.rests c.hold_row.ensures.rests;
  faults = search rules;
  reads = words_on c.args.context.now.names.places _ (g.D.Disk.state c.loop-place.disk) _ c.loop-place.invariant.reads c.hold_row.ensures.reads;
  serves = c.hold_row.ensures.serves;
  grow = grow_on c.args.held.now.records c.loop-place.held.records c.hold_row.new.held.records c.loop-place.invariant.grow c.hold_row.ensures.grow;
  ready =
      rows_more c.args.context.now.names c.args.context.now.query c.loop-place.held.records c.hold_row.new.held.records c.args.page.now.rows c.args.verdicts.now c.loop-place.place _ c.verdict_at-verdict.result
      c.loop-place.invariant.serves.numbered c.hold_row.ensures.serves.numbered c.hold_row.ensures.grow c.row.ensures c.verdict_at-verdict.ensures c.loop-place.invariant.ready c.in_ok-hold_row.ensures.ready;
}

pub returns-in_err-hold_row-clause-rests : goal.returns-in_err-hold_row-clause-rests
returns-in_err-hold_row-clause-rests g c = rests_on _ (g.D.Disk.state c.loop-place.disk) _ c.loop-place.invariant.rests c.hold_row.ensures.rests

pub returns-in_err-hold_row-clause-reads : goal.returns-in_err-hold_row-clause-reads
returns-in_err-hold_row-clause-reads g c = words_on c.args.context.now.names.places _ (g.D.Disk.state c.loop-place.disk) _ c.loop-place.invariant.reads c.hold_row.ensures.reads

pub returns-in_err-hold_row-clause-grow : goal.returns-in_err-hold_row-clause-grow
returns-in_err-hold_row-clause-grow g c = grow_on c.args.held.now.records c.loop-place.held.records c.hold_row.new.held.records c.loop-place.invariant.grow c.hold_row.ensures.grow

pub returns-clause-ready : goal.returns-clause-ready
returns-clause-ready g c = rows_all c.args.context.now.names c.args.context.now.query c.loop-place.held.records c.args.page.now.rows c.args.verdicts.now c.loop-place.place (search rules) c.requires.decided c.loop-place.invariant.ready
