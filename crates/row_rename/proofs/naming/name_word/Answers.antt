use Rattle.std.proofs.Common.{◌≡◌, refl}
use Rattle.std.specs.Prelude.{Err, IsErrOf}
use Rattle.std.proofs.lemmas.Result.{err_from_is_err_and}
use Rattle.row_codec.specs.declared.namer.NameRefusal.TheVariants.{Full}
use Rattle.row_codec.specs.declared.namer.Which.TheVariants.{Words}
use Rattle.row_rename.specs.Causes.{refused_by}
use Rattle.row_rename.specs.declared.refusal.RenameRefusal.TheVariants.{Full as RenameFull}
use Rattle.row_rename.proofs.PathLemmas.{path_one}
use Rattle.row_rename.proofs.TableLemmas.{contains_at, full_of, grown_spans, refused_full, whole_text}
use Rattle.row_rename.proofs.naming.name_word.Goals as goal

pub returns-in_err-name_spans-clause-grown : goal.returns-in_err-name_spans-clause-grown
returns-in_err-name_spans-clause-grown g c =
    let text = c.in-Some.text.now in
    grown_spans _ c.args.number text _ _ _ (whole_text text _ refl refl) c.in-Some.ensures.found c.name_spans.ensures.grown

pub returns-in_err-name_spans-clause-path : goal.returns-in_err-name_spans-clause-path
returns-in_err-name_spans-clause-path g c = path_one g.N.Namer.naming Words _ _ c.args.namer.now _ c.name_spans.ensures.naming

pub returns-in_err-name_spans-clause-full : goal.returns-in_err-name_spans-clause-full
returns-in_err-name_spans-clause-full g c = λ book count same.
    let text = c.in-Some.text.now in
    let refusal = c.in_err-name_spans.field-0.0 in
    let p = err_from_is_err_and c.from_residual.result c.from_residual.ensures.1 in
    let made : refused_by refusal ≡ RenameFull book count = cc (p.1, p.2, same) in
    let full : refusal ≡ Full book count = refused_full refusal book count made in
    let was : c.name_spans.result ≡ Err refusal = c.in_err-name_spans.was in
    let refused : IsErrOf c.name_spans.result (Full book count) = cc (was, full) in
    let met = c.name_spans.ensures.full book count refused in
    (met.0, full_of _ text _ _ count (whole_text text _ refl refl) (contains_at _ c.args.number text c.in-Some.ensures.found) met.1)

pub returns-clause-grown : goal.returns-clause-grown
returns-clause-grown g c =
    let text = c.in-Some.text.now in
    grown_spans _ c.args.number text _ _ _ (whole_text text _ refl refl) c.in-Some.ensures.found c.name_spans.ensures.grown

pub returns-clause-path : goal.returns-clause-path
returns-clause-path g c = path_one g.N.Namer.naming Words _ _ c.args.namer.now _ c.name_spans.ensures.naming
