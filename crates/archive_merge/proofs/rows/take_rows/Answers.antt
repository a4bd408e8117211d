use Rattle.std.proofs.Common.{◌≡◌, ◌∙◌, ◌+◌, rules, arith, suc, subst, take}
use Rattle.std.specs.Prelude.{Err, IsErrOf}
use Rattle.std.proofs.lemmas.Result.{err_from_is_err_and}
use Rattle.column_store.specs.Row.{row_of}
use Rattle.row_rename.proofs.PathLemmas.{path_then}
use Rattle.archive_merge.specs.declared.stop.Stop.TheVariants.{Full, SecondDamaged}
use Rattle.archive_merge.specs.InHand.{TakesAll, Texts}
use Rattle.archive_merge.proofs.HandLemmas.{both_none, both_then, marks_then, may_take, row_named, takes_more, takes_none}
use Rattle.archive_merge.proofs.rows.take_rows.Goals as goal

pub returns-in_err-take_row-clause-named : goal.returns-in_err-take_row-clause-named
returns-in_err-take_row-clause-named g c = both_then _ _ _ _ _ _ _ _ _ _ _ c.loop-place.invariant.named
    (row_named (record { types = g.M.Names.types c.args.names.now; words = g.M.Names.words c.args.names.now }) c.args.page.now.rows c.loop-place.place (row_of c.row.result) _ _ _ _ _ c.row.ensures c.take_row.ensures.named)

pub returns-in_err-take_row-clause-path : goal.returns-in_err-take_row-clause-path
returns-in_err-take_row-clause-path g c = path_then g.N.Namer.naming _ _ _ c.loop-place.invariant.path c.take_row.ensures.path

pub returns-in_err-take_row-clause-marks : goal.returns-in_err-take_row-clause-marks
returns-in_err-take_row-clause-marks g c = marks_then _ _ _ c.loop-place.invariant.marks c.take_row.ensures.marks

pub returns-in_err-take_row-clause-full : goal.returns-in_err-take_row-clause-full
returns-in_err-take_row-clause-full g c = λ book count same.
    let refusal = c.in_err-take_row.field-0.0 in
    let p = err_from_is_err_and c.from_residual.result c.from_residual.ensures.1 in
    let was : c.take_row.result ≡ Err refusal = c.in_err-take_row.was in
    let refused : IsErrOf c.take_row.result (Full book count) = cc (p.1, p.2, same, was) in
    c.take_row.ensures.full book count refused

pub returns-in_err-take_row-clause-damaged : goal.returns-in_err-take_row-clause-damaged
returns-in_err-take_row-clause-damaged g c = λ same may.
    let refusal = c.in_err-take_row.field-0.0 in
    let p = err_from_is_err_and c.from_residual.result c.from_residual.ensures.1 in
    let was : c.take_row.result ≡ Err refusal = c.in_err-take_row.was in
    let refused : IsErrOf c.take_row.result SecondDamaged = cc (p.1, p.2, same, was) in
    c.take_row.ensures.damaged refused (may_take _ _ _ c.args.page.now.rows c.loop-place.place (row_of c.row.result) c.args.hand.now c.loop-place.hand c.row.ensures c.loop-place.invariant.takes may)

pub loop-place-init : goal.loop-place-init
loop-place-init g c = record {
  version = search rules;
  named = both_none _ _ _ _ _ _ c.requires.tables;
  path = search rules;
  marks = search rules;
  takes = takes_none _ _ _;
}

pub loop-place-preserved : goal.loop-place-preserved
loop-place-preserved g c =
    let now = c.loop-place in
    let step : suc now.place ≡ now.place + 1 = omega arith in
    let old : Texts = record { types = g.M.Names.types c.args.names.now; words = g.M.Names.words c.args.names.now } in
    let before : Texts = record { types = (g.N.Namer.types c.args.namer.now).texts; words = (g.N.Namer.words c.args.namer.now).texts } in
    let middle : Texts = record { types = (g.N.Namer.types now.namer).texts; words = (g.N.Namer.words now.namer).texts } in
    let after : Texts = record { types = (g.N.Namer.types c.take_row.new.namer).texts; words = (g.N.Namer.words c.take_row.new.namer).texts } in
    record {
      version = c.take_row.ensures.version ∙ now.invariant.version;
      named = both_then _ _ _ _ _ _ _ _ _ _ _ now.invariant.named (row_named old c.args.page.now.rows now.place (row_of c.row.result) _ _ _ _ _ c.row.ensures c.take_row.ensures.named);
      path = path_then g.N.Namer.naming _ _ _ now.invariant.path c.take_row.ensures.path;
      marks = marks_then _ _ _ now.invariant.marks c.take_row.ensures.marks;
      takes = subst (λ k. TakesAll old before after (take k c.args.page.now.rows) c.args.hand.now c.take_row.new.hand) step
          (takes_more old before middle after c.args.page.now.rows now.place (row_of c.row.result) c.args.hand.now now.hand c.take_row.new.hand c.row.ensures now.invariant.takes c.in_ok-take_row.ensures.taken);
    }
