use Rattle.std.proofs.Common.{rules, arith, ◌≡◌, ◌<◌, ◌^◌, ◌++◌, ◌∷◌, [], List, ℕ, length, sym, ◌∙◌, ap, subst}
use Rattle.std.proofs.lemmas.Bool.{false≢true}
use Rattle.column_store.specs.declared.row.Row.{Row}
use Rattle.column_store.specs.Row.{variable_count}
use Rattle.row_codec.specs.Means.{IsCanonical}
use Rattle.archive_core.proofs.RowsLemmas.{at_none}
use Rattle.archive_machine.specs.Machine.{rows_of}
use Rattle.archive_machine.proofs.machine.row_to_add.Goals as goal

pub has_room-requires : goal.has_room-requires
has_room-requires c = (c.requires.hands c.args.worker).1.most

pub row_for-requires-clause-few_types : goal.row_for-requires-clause-few_types
row_for-requires-clause-few_types c = omega (arith, ap length c.as_slice.ensures, c.requires.types_book.most, c.limits_fit.ensures.types)

pub row_for-requires-clause-few_words : goal.row_for-requires-clause-few_words
row_for-requires-clause-few_words c = omega (arith, ap length c.as_slice-2.ensures, c.requires.words_book.most, c.limits_fit.ensures.words)

pub returns-in_default-clause-none : goal.returns-in_default-clause-none
returns-in_default-clause-none c = λ row can.
    let version = c.args.header.now.version in
    let types : List (List ℕ) = c.as_slice.result.now in
    let words : List (List ℕ) = c.as_slice-2.result.now in
    at_none c.in_ok-row.field-0 _ c.in_ok-row.ensures.none c.in_default.is row (subst (λ t. IsCanonical version row t words c.args.message.now) (sym c.as_slice.ensures)
    (subst (λ t. IsCanonical version row c.args.core.now.types t c.args.message.now) (sym c.as_slice-2.ensures) can.canonical))

pub are_few-requires : goal.are_few-requires
are_few-requires c =
    let rows : List Row = c.rows_in_hand.result.now in
    let same : rows ≡ rows_of c.args.worker c.args.core.now.hands = c.rows_in_hand.ensures ∙ ap (rows_of c.args.worker) c.as_slice-3.ensures in
    subst (λ l. variable_count l < 2 ^ 32) (sym same) (c.requires.hands c.args.worker).1.variables

pub returns-then-not-are_few-clause-none : goal.returns-then-not-are_few-clause-none
returns-then-not-are_few-clause-none c = λ row can.
    let version = c.args.header.now.version in
    let types : List (List ℕ) = c.args.core.now.types in
    let words : List (List ℕ) = c.args.core.now.words in
    let mine : Row = c.in-Some.row in
    let found : IsCanonical version mine c.as_slice.result.now c.as_slice-2.result.now c.args.message.now = search rules in
    let moved : IsCanonical version mine types words c.args.message.now =
    subst (λ t. IsCanonical version mine t words c.args.message.now) c.as_slice.ensures
    (subst (λ t. IsCanonical version mine c.as_slice.result.now t c.args.message.now) c.as_slice-2.ensures found) in
    let one : row ≡ mine = c.one_row.ensures.row version row mine types words c.args.message.now c.requires.types_book.distinct c.requires.words_book.distinct can.canonical moved in
    let rows : List Row = c.rows_in_hand.result.now in
    let same : rows ≡ rows_of c.args.worker c.args.core.now.hands = c.rows_in_hand.ensures ∙ ap (rows_of c.args.worker) c.as_slice-3.ensures in
    false≢true (c.if-not-are_few.ensures.1
    (subst (λ l. variable_count (l ++ mine ∷ []) < 2 ^ 32) (sym same) (subst (λ r. variable_count (rows_of c.args.worker c.args.core.now.hands ++ r ∷ []) < 2 ^ 32) one can.variables)))
