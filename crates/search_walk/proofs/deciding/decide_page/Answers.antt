use Rattle.std.proofs.Common.{◌<◌, ◌≤◌, ap, arith, length, refl, rules}
use Rattle.std.specs.Prelude.{slice_index_or}
use Rattle.std.proofs.lemmas.List.{length-map}
use Rattle.std.proofs.lemmas.Option.{slice_get-get_or}
use Rattle.column_store.specs.declared.row.Row.{Row}
use Rattle.search_walk.specs.Held.{IsTold}
use Rattle.search_walk.specs.Ready.{IsDecided}
use Rattle.search_walk.proofs.CountLemmas.{before_next, counts_later, counts_start, ends_here, ends_long, no_row, row_type, row_words}
use Rattle.search_walk.proofs.ReadyLemmas.{zip_all, zip_more, zip_none}
use Rattle.search_walk.proofs.deciding.decide_page.Goals as goal

pub loop-place-init : goal.loop-place-init
loop-place-init g c = record {
  room = search rules;
  len = search rules;
  page = c.begin_page-tests.ensures;
  start = refl;
  none = counts_start c.filter-filter.result.now c.words-words.result.now;
  decided = zip_none (λ row v. IsTold c.args.context.now.names → IsDecided c.args.context.now.names c.args.context.now.query row v) c.args.page.now.rows _ c.clear.ensures.items;
}

pub end_at-end-requires : goal.end_at-end-requires
end_at-end-requires g c =
    let here : c.loop-place.place < length c.args.page.now.rows = search rules in
    omega (arith, here, ap length c.ends-ends.ensures, ends_long 0 c.args.page.now.rows)

pub type_at-log_type-requires : goal.type_at-log_type-requires
type_at-log_type-requires g c =
    let here : c.loop-place.place < length c.args.page.now.rows = search rules in
    omega (arith, here, ap length c.types-types.ensures, length-map c.args.page.now.rows (λ (r : Row). r.log_type))

pub loop-place-preserved : goal.loop-place-preserved
loop-place-preserved g c =
    let l = c.loop-place in
    let rows = c.args.page.now.rows in
    let filter = c.filter-filter.result.now in
    let words = c.words-words.result.now in
    let end = c.end_at-end.result in
    let within : l.place < length rows = search rules in
    let row : Row = slice_index_or rows l.place no_row in
    let here = slice_get-get_or rows l.place no_row within in
    let ended = ends_here rows c.ends-ends.result.now l.place end row c.ends-ends.ensures here c.end_at-end.ensures in
    let later : l.start ≤ end = omega (arith, ended, l.invariant.start) in
    record {
      room = search rules;
      len = search rules;
      page = c.decide_at-verdict.ensures.kept filter l.invariant.page;
      start = omega (arith, ended, before_next rows l.place row here);
      none = counts_later filter words l.start end c.rejects_row-known.new.hit later (c.rejects_row-known.ensures.kept l.invariant.none);
      decided = zip_more (λ row v. IsTold c.args.context.now.names → IsDecided c.args.context.now.names c.args.context.now.query row v) rows l.verdicts.items c.push_reserved.new.self.items l.place row _ here c.push_reserved.ensures.items l.invariant.decided
          (c.decide_at-verdict.ensures.decided row here
          (λ known. c.rejects_row-known.ensures.rejected known l.invariant.none row (row_type rows c.types-types.result.now l.place c.type_at-log_type.result row c.types-types.ensures here c.type_at-log_type.ensures)
          (row_words rows words l.place l.start end row c.words-words.ensures here l.invariant.start ended)) l.invariant.page c.filter-filter.ensures);
    }

pub returns : goal.returns
returns g c = zip_all (λ row v. IsTold c.args.context.now.names → IsDecided c.args.context.now.names c.args.context.now.query row v) c.args.page.now.rows c.loop-place.verdicts.items c.loop-place.place (search rules) c.loop-place.invariant.decided
