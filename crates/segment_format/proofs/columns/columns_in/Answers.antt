use Rattle.std.proofs.Common.{◌<◌, ◌^◌, refl, arith}
use Rattle.segment_format.proofs.RowsLemmas.{columns_are, arrays_are}
use Rattle.segment_format.proofs.columns.columns_in.Goals as goal

pub returns-in-Some-clause-spelled : goal.returns-in-Some-clause-spelled
returns-in-Some-clause-spelled c =
    columns_are c.args.bytes.now c.args.rows c.args.words c.in_ok-filled.filled c.in-Some.columns.rows c.in_ok-filled.ensures c.in-Some.ensures.rows c.rows_fit.ensures

pub returns-in-None-clause-malformed : goal.returns-in-None-clause-malformed
returns-in-None-clause-malformed c = λ _ list are.
    let rows : c.args.rows < 2 ^ 32 = omega (arith, c.ranges.rows.fits) in
    let words : c.args.words < 2 ^ 32 = omega (arith, c.ranges.words.fits) in
    c.in-None.ensures.none refl list (omega (arith, rows, are.count)) (omega (arith, words, are.variables))
    (arrays_are c.args.bytes.now c.args.rows c.args.words c.in_ok-filled.filled list words c.in_ok-filled.ensures are)
