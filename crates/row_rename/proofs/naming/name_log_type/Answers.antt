use Rattle.std.proofs.Common.{◌≡◌, rules, refl}
use Rattle.std.specs.Prelude.{Err, IsErrOf}
use Rattle.std.proofs.lemmas.Result.{err_from_is_err_and}
use Rattle.logtype_text.specs.Fair.{IsFairType}
use Rattle.logtype_text.proofs.TextLemmas.{good_is_type_text}
use Rattle.row_codec.specs.declared.namer.NameRefusal.TheVariants.{Full}
use Rattle.row_codec.specs.declared.namer.Which.TheVariants.{Types}
use Rattle.row_rename.specs.Causes.{refused_by}
use Rattle.row_rename.specs.declared.refusal.RenameRefusal.TheVariants.{Full as RenameFull}
use Rattle.row_rename.proofs.PathLemmas.{path_one}
use Rattle.row_rename.proofs.TableLemmas.{contains_at, full_of, grown_text, refused_full}
use Rattle.row_rename.proofs.naming.name_log_type.Goals as goal

pub kinds_of-requires : goal.kinds_of-requires
kinds_of-requires g c =
    let text = c.in-Some.text.now in
    let fair : IsFairType text = c.is_fair_type.ensures.0 (search rules) in
    (good_is_type_text text).0 fair.good

pub returns-in_err-renamed-clause-grown : goal.returns-in_err-renamed-clause-grown
returns-in_err-renamed-clause-grown g c =
    let text = c.in-Some.text.now in
    grown_text _ c.args.number text _ _ c.in-Some.ensures c.name_type.ensures.grown

pub returns-in_err-renamed-clause-path : goal.returns-in_err-renamed-clause-path
returns-in_err-renamed-clause-path g c = path_one g.N.Namer.naming Types _ _ c.args.namer.now _ c.name_type.ensures.naming

pub returns-in_err-renamed-clause-full : goal.returns-in_err-renamed-clause-full
returns-in_err-renamed-clause-full g c = λ book count same.
    let text = c.in-Some.text.now in
    let refusal = c.in_err-renamed.field-0.0 in
    let p = err_from_is_err_and c.from_residual-in_err-renamed.result c.from_residual-in_err-renamed.ensures.1 in
    let made : refused_by refusal ≡ RenameFull book count = cc (p.1, p.2, same) in
    let full : refusal ≡ Full book count = refused_full refusal book count made in
    let was : c.name_type.result ≡ Err refusal = c.in_err-renamed.was in
    let refused : IsErrOf c.name_type.result (Full book count) = cc (was, full) in
    let met = c.name_type.ensures.full book count refused in
    (met.0, full_of _ text _ _ count refl (contains_at _ c.args.number text c.in-Some.ensures) met.1)

pub returns-clause-grown : goal.returns-clause-grown
returns-clause-grown g c =
    let text = c.in-Some.text.now in
    grown_text _ c.args.number text _ _ c.in-Some.ensures c.name_type.ensures.grown

pub returns-clause-path : goal.returns-clause-path
returns-clause-path g c = path_one g.N.Namer.naming Types _ _ c.args.namer.now _ c.name_type.ensures.naming
