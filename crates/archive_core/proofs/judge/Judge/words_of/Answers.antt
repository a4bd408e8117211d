use Rattle.std.proofs.Common.{◌≡◌, ◌<◌, ◌≤◌, ◌^◌, All, length, subst, sym}
use Rattle.std.specs.Prelude.{IfNone, IfOk, IfSome}
use Rattle.std.specs.List.{flat_map}
use Rattle.std.proofs.lemmas.Result.{IfOk-weaker}
use Rattle.column_store.specs.Row.{variable_count}
use Rattle.row_codec.specs.Numbers.{numbers_of_row}
use Rattle.archive_meaning.specs.Spelled.{words_named}
use Rattle.archive_meaning.specs.Sums.{Sums}
use Rattle.archive_core.specs.LogTypes.{AreKnown}
use Rattle.archive_core.proofs.NumbersLemmas.{none_then, some_then}
use Rattle.archive_core.proofs.judge.Judge.words_of.Goals as goal

pub returns-clause-some : goal.returns-clause-some
returns-clause-some g c =
    let rows = g.R.Rows.rows c.args.rows.now in
    let known = subst (λ l. AreKnown c.self.inside.books.types.texts l) (sym c.as_slice.ensures.value) c.self.invariant.types_known in
    let types = c.self.inside.books.types.texts in
    let here = IfOk-weaker c.words_of.result _ (λ found. IfSome found (λ numbers. numbers ≡ words_named types rows))
    (λ found told. some_then found _ (λ numbers. numbers ≡ words_named types rows) (λ numbers are. are types known) told) c.words_of.ensures.some in
    subst (λ (s : Sums). IfOk c.words_of.result (λ found. IfSome found (λ numbers. numbers ≡ words_named s.types rows))) c.self.view_is here

pub returns-clause-few : goal.returns-clause-few
returns-clause-few g c =
    let rows = g.R.Rows.rows c.args.rows.now in
    let known = subst (λ l. AreKnown c.self.inside.books.types.texts l) (sym c.as_slice.ensures.value) c.self.invariant.types_known in
    IfOk-weaker c.words_of.result _ (λ found. IfSome found (λ numbers. length numbers ≤ variable_count rows))
    (λ found told. some_then found _ (λ numbers. length numbers ≤ variable_count rows) (λ numbers are. are c.self.inside.books.types.texts known) told) c.words_of.ensures.few

pub returns-clause-none : goal.returns-clause-none
returns-clause-none g c =
    let rows = g.R.Rows.rows c.args.rows.now in
    let known = subst (λ l. AreKnown c.self.inside.books.types.texts l) (sym c.as_slice.ensures.value) c.self.invariant.types_known in
    let types = c.self.inside.books.types.texts in
    let here = IfOk-weaker c.words_of.result _ (λ found. IfNone found (¬ All (λ n. n < 2 ^ 32) (flat_map (numbers_of_row types) rows)))
    (λ found told. none_then found _ (¬ All (λ n. n < 2 ^ 32) (flat_map (numbers_of_row types) rows)) (λ are. are types known) told) c.words_of.ensures.none in
    subst (λ (s : Sums). IfOk c.words_of.result (λ found. IfNone found (¬ All (λ n. n < 2 ^ 32) (flat_map (numbers_of_row s.types) rows)))) c.self.view_is here
