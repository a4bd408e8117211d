use Rattle.std.proofs.Common.{subst}
use Rattle.logtype_text.specs.declared.symbols.Kind.{Kind}
use Rattle.row_codec.specs.StepsBody.{HasWriting}
use Rattle.row_codec.proofs.expanding.put_word.Goals as goal

pub returns-then-not-decimal_ok-clause-misfit : goal.returns-then-not-decimal_ok-clause-misfit
returns-then-not-decimal_ok-clause-misfit g c = λ no has.
    let here = subst (λ (k : Kind). HasWriting (g.N.Names.words c.args.names.now) k c.args.word) c.in-Decimal.is has in
    absurd (cc (c.decimal_ok.ensures.text.1 here, c.if-not-decimal_ok.true))

pub returns-in-None-clause-misfit : goal.returns-in-None-clause-misfit
returns-in-None-clause-misfit g c = λ no has.
    let here = subst (λ (k : Kind). HasWriting (g.N.Names.words c.args.names.now) k c.args.word) c.in-Word.is has in
    c.in-None.ensures here.0 here.1
