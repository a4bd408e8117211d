use Rattle.std.proofs.Common.{◌≡◌, ℕ, List, ◌++◌, ◌∙◌, ap, refl, rules, subst, sym}
use Rattle.std.specs.Prelude.{Err, IsErrOf}
use Rattle.std.proofs.lemmas.Result.{err_from_is_err_and}
use Rattle.column_store.specs.Row.{row_of}
use Rattle.row_codec.specs.declared.namer.Which.{Which}
use Rattle.row_rename.specs.declared.refusal.RenameRefusal.TheVariants.{Damaged, Full}
use Rattle.row_rename.specs.Causes.{IsFull}
use Rattle.row_rename.specs.Renamed.{IsTextAmong, IsTextOfRow}
use Rattle.row_rename.specs.Tables.{HasNamedSome}
use Rattle.row_rename.proofs.PathLemmas.{path_then}
use Rattle.row_rename.proofs.RenameLemmas.{numbers_are, row_damaged, row_numbers, row_renamed}
use Rattle.row_rename.proofs.TableLemmas.{named_types, named_words}
use Rattle.row_rename.proofs.rows.rename_row.Goals as goal

pub returns-in_err-rename_type-clause-named : goal.returns-in_err-rename_type-clause-named
returns-in_err-rename_type-clause-named g c =
    named_types (IsTextOfRow (g.M.Names.types c.args.names.now) (g.M.Names.words c.args.names.now) (row_of c.args.row)) _ _ _ _ (g.N.Namer.words c.args.namer.now) _ _ c.rename_type.ensures.grown c.rename_type.ensures.others.1 c.rename_type.ensures.kept c.requires.words_are

pub returns-in_err-rename_type-clause-full : goal.returns-in_err-rename_type-clause-full
returns-in_err-rename_type-clause-full g c = λ book count same.
    let refusal = c.in_err-rename_type.field-0.0 in
    let p = err_from_is_err_and c.from_residual.result c.from_residual.ensures.1 in
    let was : c.rename_type.result ≡ Err refusal = c.in_err-rename_type.was in
    let refused : IsErrOf c.rename_type.result (Full book count) = cc (p.1, p.2, same, was) in
    let met = c.rename_type.ensures.full book count refused in
    subst (λ (b : Which). IsFull b (g.M.Names.types c.args.names.now) (g.M.Names.words c.args.names.now) (g.N.Namer.types c.rename_type.new.namer) (g.N.Namer.words c.rename_type.new.namer) count) (sym met.0) met.1

pub returns-in_err-rename_words-clause-named : goal.returns-in_err-rename_words-clause-named
returns-in_err-rename_words-clause-named g c =
    let types = g.M.Names.types c.args.names.now in
    let words = g.M.Names.words c.args.names.now in
    let l = c.in-Some.log_type.now in
    let is = c.rename_type.ensures.kept c.args.row.log_type l c.in-Some.ensures in
    let numbers = numbers_are types (g.N.Namer.types c.rename_type.new.namer).texts c.args.row.log_type l c.as_slice.result.now c.args.row.words.now is c.as_slice.ensures.value in
    let some = subst (λ (n : List ℕ). HasNamedSome (IsTextAmong words n) words (g.N.Namer.words c.rename_type.new.namer) (g.N.Namer.words c.rename_words.new.namer) c.rename_words.new.table.numbers.items) numbers c.rename_words.ensures.words in
    named_words (IsTextOfRow types words (row_of c.args.row)) types words _ _ _ _ _ _ _ c.rename_type.ensures.grown c.rename_words.ensures.others.1 c.rename_type.ensures.kept c.rename_type.ensures.others.1 some

pub returns-in_err-rename_words-clause-path : goal.returns-in_err-rename_words-clause-path
returns-in_err-rename_words-clause-path g c = path_then g.N.Namer.naming _ _ _ c.rename_type.ensures.path c.rename_words.ensures.path

pub returns-in_err-rename_words-clause-full : goal.returns-in_err-rename_words-clause-full
returns-in_err-rename_words-clause-full g c = λ book count same.
    let refusal = c.in_err-rename_words.field-0.0 in
    let p = err_from_is_err_and c.from_residual-in_err-rename_words.result c.from_residual-in_err-rename_words.ensures.1 in
    let was : c.rename_words.result ≡ Err refusal = c.in_err-rename_words.was in
    let refused : IsErrOf c.rename_words.result (Full book count) = cc (p.1, p.2, same, was) in
    let met = c.rename_words.ensures.full book count refused in
    subst (λ (b : Which). IsFull b (g.M.Names.types c.args.names.now) (g.M.Names.words c.args.names.now) (g.N.Namer.types c.rename_words.new.namer) (g.N.Namer.words c.rename_words.new.namer) count) (sym met.0) met.1

pub returns-in_err-rename_words-clause-damaged : goal.returns-in_err-rename_words-clause-damaged
returns-in_err-rename_words-clause-damaged g c = λ same.
    let refusal = c.in_err-rename_words.field-0.0 in
    let p = err_from_is_err_and c.from_residual-in_err-rename_words.result c.from_residual-in_err-rename_words.ensures.1 in
    let was : c.rename_words.result ≡ Err refusal = c.in_err-rename_words.was in
    let refused : IsErrOf c.rename_words.result Damaged = cc (p.1, p.2, same, was) in
    let l = c.in-Some.log_type.now in
    let is = c.rename_type.ensures.kept c.args.row.log_type l c.in-Some.ensures in
    row_damaged (g.M.Names.types c.args.names.now) (g.M.Names.words c.args.names.now) _ (row_of c.args.row) l c.as_slice.result.now is c.as_slice.ensures.value (c.rename_words.ensures.damaged refused)

pub returns-clause-named : goal.returns-clause-named
returns-clause-named g c =
    let types = g.M.Names.types c.args.names.now in
    let words = g.M.Names.words c.args.names.now in
    let l = c.in-Some.log_type.now in
    let is = c.rename_type.ensures.kept c.args.row.log_type l c.in-Some.ensures in
    let numbers = numbers_are types (g.N.Namer.types c.rename_type.new.namer).texts c.args.row.log_type l c.as_slice.result.now c.args.row.words.now is c.as_slice.ensures.value in
    let some = subst (λ (n : List ℕ). HasNamedSome (IsTextAmong words n) words (g.N.Namer.words c.rename_type.new.namer) (g.N.Namer.words c.rename_words.new.namer) c.rename_words.new.table.numbers.items) numbers c.rename_words.ensures.words in
    named_words (IsTextOfRow types words (row_of c.args.row)) types words _ _ _ _ _ _ _ c.rename_type.ensures.grown c.rename_words.ensures.others.1 c.rename_type.ensures.kept c.rename_type.ensures.others.1 some

pub returns-clause-path : goal.returns-clause-path
returns-clause-path g c = path_then g.N.Namer.naming _ _ _ c.rename_type.ensures.path c.rename_words.ensures.path

pub returns-clause-renamed : goal.returns-clause-renamed
returns-clause-renamed g c =
    let l = c.in-Some.log_type.now in
    let is = c.rename_type.ensures.kept c.args.row.log_type l c.in-Some.ensures in
    row_renamed (g.M.Names.types c.args.names.now) (g.M.Names.words c.args.names.now) (g.N.Namer.words c.rename_words.new.namer).texts (g.N.Namer.types c.rename_type.new.namer) (g.N.Namer.types c.rename_words.new.namer) (row_of c.args.row) _ l c.as_slice.result.now
    c.rename_words.ensures.others.1 is c.as_slice.ensures.value refl (search rules) refl c.in_ok-rename_words.ensures.renamed

pub returns-clause-used : goal.returns-clause-used
returns-clause-used g c =
    let l = c.in-Some.log_type.now in
    let is = c.rename_type.ensures.kept c.args.row.log_type l c.in-Some.ensures in
    c.in_ok-rename_words.ensures.used
    ∙ ap (λ (n : List ℕ). c.args.renamed.now.used.items ++ n) (row_numbers (g.M.Names.types c.args.names.now) (g.N.Namer.types c.rename_type.new.namer) (g.N.Namer.types c.rename_words.new.namer) c.args.row.log_type l c.as_slice.result.now c.rename_words.new.renamed.words.items c.rename_words.ensures.others.1 is c.as_slice.ensures.value)
