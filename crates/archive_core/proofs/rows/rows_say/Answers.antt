use Rattle.std.proofs.Common.{rules, suc, ◌+◌, ◌≡◌, ℕ, List, take, arith, subst}
use Rattle.column_store.specs.Row.{row_of}
use Rattle.archive_meaning.specs.Sums.{open_after}
use Rattle.archive_core.specs.Rows.{AreMessages}
use Rattle.archive_core.proofs.RowsLemmas.{at_none, at_some, row_of_rows, rows_more}
use Rattle.archive_core.proofs.rows.rows_say.Goals as goal

pub returns-in-None-clause-none : goal.returns-in-None-clause-none
returns-in-None-clause-none g c = λ messages are.
    let version = g.N.Names.version c.args.names.now in
    let types = g.N.Names.types c.args.names.now in
    let words = g.N.Names.words c.args.names.now in
    let rows = g.R.Rows.rows c.args.rows.now in
    let found = row_of_rows version types words rows messages c.loop-place.place (row_of c.at.result) c.at.ensures are in
    at_none c.in_ok-open.field-0 _ c.in_ok-open.ensures.none c.in-None.is found.0 found.1

pub loop-place-preserved : goal.loop-place-preserved
loop-place-preserved g c =
    let version = g.N.Names.version c.args.names.now in
    let types = g.N.Names.types c.args.names.now in
    let words = g.N.Names.words c.args.names.now in
    let rows = g.R.Rows.rows c.args.rows.now in
    let place = c.loop-place.place in
    let step : suc place ≡ place + 1 = omega arith in
    let here = at_some c.in_ok-open.field-0 _ c.in-Some.open c.in_ok-open.ensures.some c.in-Some.is in
    record {
      says = subst (λ k. (messages : List (List ℕ)) × AreMessages version types words (take k rows) messages × (c.in-Some.open ≡ open_after c.args.before messages)) step
          (rows_more version types words rows place (row_of c.at.result) c.args.before c.loop-place.open_end c.in-Some.open c.at.ensures c.loop-place.invariant.says here);
      writer = search rules;
      known = search rules;
    }
