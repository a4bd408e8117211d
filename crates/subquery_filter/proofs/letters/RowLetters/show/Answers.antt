use Rattle.std.proofs.Common.{◌≡◌, ◌++◌, sym, subst}
use Rattle.std.specs.Prelude.{slice_range}
use Rattle.logtype_text.specs.declared.symbols.Kind.TheVariants.{Decimal}
use Rattle.subquery_filter.specs.StepsLetters.{shown}
use Rattle.subquery_filter.proofs.LetterLemmas.{shown_put}
use Rattle.subquery_filter.proofs.letters.RowLetters.show.Goals as goal

pub returns-in-Decimal-clause-shown : goal.returns-in-Decimal-clause-shown
returns-in-Decimal-clause-shown g c =
    let words = g.N.Names.words c.args.self.now.names.now in
    let printed = c.put_decimal-self.new.out in
    subst (λ kind. slice_range printed 0 c.put_decimal-self.result ++ c.args.self.now.word.now ≡ shown words kind c.args.word) (sym c.in-Decimal.is)
    (shown_put printed c.args.self.now.word.now (shown words Decimal c.args.word) c.put_decimal-self.result (c.put_decimal-self.ensures.text words) c.requires)
