use Rattle.std.proofs.Common.{◌≡◌, ◌∙◌, ◌++◌, [], ◌∷◌, length, rules, arith, ap}
use Rattle.std.specs.Prelude.{Err, IsErrOf}
use Rattle.std.proofs.lemmas.Result.{err_from_is_err_and}
use Rattle.column_store.specs.declared.row.Row.{Row}
use Rattle.column_store.specs.Row.{row_of}
use Rattle.row_rename.specs.declared.refusal.RenameRefusal.TheVariants.{Full, Damaged}
use Rattle.row_rename.specs.Renamed.{row_in}
use Rattle.archive_merge.specs.declared.stop.Stop.TheVariants.{Full as StopFull, SecondDamaged}
use Rattle.archive_merge.specs.InHand.{Texts}
use Rattle.archive_merge.specs.Stops.{stop_by}
use Rattle.archive_merge.proofs.HandLemmas.{renamed_long, stopped_damaged, stopped_full, takes_one}
use Rattle.archive_merge.proofs.rows.take_row.Goals as goal

pub returns-in_err-rename_row-clause-full : goal.returns-in_err-rename_row-clause-full
returns-in_err-rename_row-clause-full g c = λ book count same.
    let refusal = c.in_err-rename_row.field-0.0 in
    let p = err_from_is_err_and c.from_residual.result c.from_residual.ensures.1 in
    let made : stop_by refusal ≡ StopFull book count = cc (p.1, p.2, same) in
    let full : refusal ≡ Full book count = stopped_full refusal book count made in
    let was : c.rename_row.result ≡ Err refusal = c.in_err-rename_row.was in
    let refused : IsErrOf c.rename_row.result (Full book count) = cc (was, full) in
    c.rename_row.ensures.full book count refused

pub returns-in_err-rename_row-clause-damaged : goal.returns-in_err-rename_row-clause-damaged
returns-in_err-rename_row-clause-damaged g c = λ same may.
    let refusal = c.in_err-rename_row.field-0.0 in
    let p = err_from_is_err_and c.from_residual.result c.from_residual.ensures.1 in
    let made : stop_by refusal ≡ SecondDamaged = cc (p.1, p.2, same) in
    let damaged : refusal ≡ Damaged = stopped_damaged refusal made in
    let was : c.rename_row.result ≡ Err refusal = c.in_err-rename_row.was in
    let refused : IsErrOf c.rename_row.result Damaged = cc (was, damaged) in
    c.rename_row.ensures.damaged refused may.may

pub push-requires-clause-variables : goal.push-requires-clause-variables
push-requires-clause-variables g c =
    let to = c.in_ok-rename_row.ensures.renamed in
    omega (
      arith,
      c.has_room.ensures.0 (search rules),
      ap (λ (r : Row). length r.words) c.row.ensures,
      renamed_long (g.M.Names.words c.args.names.now) (g.N.Namer.words c.rename_row.new.namer).texts _ c.args.row.words.now c.rename_row.new.renamed.words.items to.words_are,
    )

pub returns-clause-taken : goal.returns-clause-taken
returns-clause-taken g c =
    let hand = c.args.hand.now in
    let old : Texts = record { types = g.M.Names.types c.args.names.now; words = g.M.Names.words c.args.names.now } in
    let before : Texts = record { types = (g.N.Namer.types c.args.namer.now).texts; words = (g.N.Namer.words c.args.namer.now).texts } in
    let after : Texts = record { types = (g.N.Namer.types c.rename_row.new.namer).texts; words = (g.N.Namer.words c.rename_row.new.namer).texts } in
    takes_one old before after (row_of c.args.row) (row_in c.rename_row.new.renamed) hand _ c.rename_row.ensures.named.types_grown.front c.rename_row.ensures.named.words_grown.front c.in_ok-rename_row.ensures.renamed
    (c.in_ok-push.ensures.rows ∙ ap (λ (r : Row). hand.draft.columns.rows ++ r ∷ []) c.row.ensures) c.in_ok-rename_row.ensures.used
