use Rattle.std.proofs.Common.{◌≡◌, rules, subst}
use Rattle.std.specs.Prelude.{Err, IsErrOf}
use Rattle.std.proofs.lemmas.Result.{err_from_is_err_and}
use Rattle.row_rename.specs.declared.refusal.RenameRefusal.TheVariants.{Full}
use Rattle.row_codec.specs.Naming.{HasGrown}
use Rattle.row_rename.specs.Renamed.{IsTextAt}
use Rattle.row_rename.proofs.TableLemmas.{named_one}
use Rattle.row_rename.proofs.words.rename_word.Goals as goal

pub returns-in_err-renamed-clause-words : goal.returns-in_err-renamed-clause-words
returns-in_err-renamed-clause-words g c =
    let same : c.in-Ok.number ≡ c.args.word = search rules in
    named_one (IsTextAt (g.M.Names.words c.args.names.now) c.args.word) (g.M.Names.words c.args.names.now) (g.N.Namer.words c.args.namer.now) (g.N.Namer.words c.name_word.new.namer) c.args.table.now.numbers.items c.args.table.now.numbers.items (subst (λ n. HasGrown (IsTextAt (g.M.Names.words c.args.names.now) n) (g.N.Namer.words c.args.namer.now) (g.N.Namer.words c.name_word.new.namer)) same c.name_word.ensures.grown) c.requires (λ is. is)

pub returns-in_err-renamed-clause-full : goal.returns-in_err-renamed-clause-full
returns-in_err-renamed-clause-full g c = λ book count same.
    let refusal = c.in_err-renamed.field-0.0 in
    let p = err_from_is_err_and c.from_residual.result c.from_residual.ensures.1 in
    let was : c.name_word.result ≡ Err refusal = c.in_err-renamed.was in
    let refused : IsErrOf c.name_word.result (Full book count) = cc (p.1, p.2, same, was) in
    c.name_word.ensures.full book count refused

pub returns-in_err-set-clause-words : goal.returns-in_err-set-clause-words
returns-in_err-set-clause-words g c =
    let old = g.M.Names.words c.args.names.now in
    let same : c.in-Ok.number ≡ c.args.word = search rules in
    let more = g.N.Namer.words c.name_word.new.namer in
    named_one (IsTextAt old c.args.word) old (g.N.Namer.words c.args.namer.now) more c.args.table.now.numbers.items c.set.new.self.numbers.items (subst (λ n. HasGrown (IsTextAt old n) (g.N.Namer.words c.args.namer.now) more) same c.name_word.ensures.grown) c.requires (λ is. c.set.ensures old more.texts is c.in_ok-renamed.ensures.named)

pub returns-clause-words : goal.returns-clause-words
returns-clause-words g c =
    let old = g.M.Names.words c.args.names.now in
    let same : c.in-Ok.number ≡ c.args.word = search rules in
    let more = g.N.Namer.words c.name_word.new.namer in
    named_one (IsTextAt old c.args.word) old (g.N.Namer.words c.args.namer.now) more c.args.table.now.numbers.items c.set.new.self.numbers.items (subst (λ n. HasGrown (IsTextAt old n) (g.N.Namer.words c.args.namer.now) more) same c.name_word.ensures.grown) c.requires (λ is. c.set.ensures old more.texts is c.in_ok-renamed.ensures.named)
