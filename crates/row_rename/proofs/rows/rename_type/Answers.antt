use Rattle.std.proofs.Common.{◌≡◌}
use Rattle.std.specs.Prelude.{Err, IsErrOf, is_some, true}
use Rattle.std.proofs.lemmas.Result.{err_from_is_err_and}
use Rattle.row_rename.specs.declared.refusal.RenameRefusal.TheVariants.{Full}
use Rattle.row_rename.proofs.TableLemmas.{found_known, log_types_stay}
use Rattle.row_rename.proofs.rows.rename_type.Goals as goal

pub returns-then-is_some-clause-named : goal.returns-then-is_some-clause-named
returns-then-is_some-clause-named g c =
    let some : is_some c.get.result ≡ true = cc (c.is_some.ensures, c.if-is_some.true) in
    found_known c.get.result (λ a. a.now) c.args.log_types.now.named.items c.args.number c.get.ensures some

pub returns-in_err-log_type-clause-kept : goal.returns-in_err-log_type-clause-kept
returns-in_err-log_type-clause-kept g c =
    log_types_stay (g.M.Names.types c.args.names.now) (g.N.Namer.types c.args.namer.now).texts (g.N.Namer.types c.name_log_type.new.namer).texts c.args.log_types.now.named.items c.name_log_type.ensures.grown.front c.requires

pub returns-in_err-log_type-clause-full : goal.returns-in_err-log_type-clause-full
returns-in_err-log_type-clause-full g c = λ book count same.
    let refusal = c.in_err-log_type.field-0.0 in
    let p = err_from_is_err_and c.from_residual.result c.from_residual.ensures.1 in
    let was : c.name_log_type.result ≡ Err refusal = c.in_err-log_type.was in
    let refused : IsErrOf c.name_log_type.result (Full book count) = cc (p.1, p.2, same, was) in
    c.name_log_type.ensures.full book count refused

pub returns-in_err-set-clause-kept : goal.returns-in_err-set-clause-kept
returns-in_err-set-clause-kept g c =
    let types = g.M.Names.types c.args.names.now in
    let more = (g.N.Namer.types c.name_log_type.new.namer).texts in
    c.set.ensures.kept types more (log_types_stay types (g.N.Namer.types c.args.namer.now).texts more c.args.log_types.now.named.items c.name_log_type.ensures.grown.front c.requires) c.in_ok-log_type.ensures.named

pub returns-clause-kept : goal.returns-clause-kept
returns-clause-kept g c =
    let types = g.M.Names.types c.args.names.now in
    let more = (g.N.Namer.types c.name_log_type.new.namer).texts in
    c.set.ensures.kept types more (log_types_stay types (g.N.Namer.types c.args.namer.now).texts more c.args.log_types.now.named.items c.name_log_type.ensures.grown.front c.requires) c.in_ok-log_type.ensures.named
