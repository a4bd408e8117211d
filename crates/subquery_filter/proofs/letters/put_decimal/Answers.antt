use Rattle.std.proofs.Common.{◌≤◌, length, arith}
use Rattle.subquery_filter.proofs.LetterLemmas.{decimal_put, no_decimal}
use Rattle.subquery_filter.proofs.letters.put_decimal.Goals as goal

pub returns-then-not-decimal_ok-clause-text : goal.returns-then-not-decimal_ok-clause-text
returns-then-not-decimal_ok-clause-text c = λ words. no_decimal words c.args.word c.decimal_ok.result c.decimal_ok.ensures.bits c.if-not-decimal_ok.true

pub returns-clause-text : goal.returns-clause-text
returns-clause-text c = λ words.
    let long : c.decimal_text-len.result ≤ length c.decimal_text-len.new.out = omega (arith, c.decimal_text-len.ensures.within, c.decimal_text-len.array_long) in
    decimal_put words c.copy_from_slice.new.self c.decimal_text-len.new.out _ c.decimal_text-len.result c.args.word c.copy_from_slice.ensures.after long c.decimal_text-len.ensures.text
