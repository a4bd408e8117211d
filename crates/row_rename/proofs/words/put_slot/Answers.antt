use Rattle.std.proofs.Common.{◌≡◌, [], ◌∷◌, rules}
use Rattle.std.specs.Prelude.{Err, IsErrOf}
use Rattle.std.proofs.lemmas.Result.{err_from_is_err_and}
use Rattle.logtype_text.specs.declared.symbols.Kind.TheVariants.{Word}
use Rattle.row_codec.specs.Numbers.{word_numbers}
use Rattle.row_rename.specs.declared.refusal.RenameRefusal.TheVariants.{Full}
use Rattle.row_rename.specs.Renamed.{IsTextAmong, IsTextAt}
use Rattle.row_rename.proofs.RenameLemmas.{slot_text}
use Rattle.row_rename.proofs.TableLemmas.{named_weaker}
use Rattle.row_rename.proofs.words.put_slot.Goals as goal

pub returns-in_err-number-clause-full : goal.returns-in_err-number-clause-full
returns-in_err-number-clause-full g c = λ book count same.
    let refusal = c.in_err-number.field-0.0 in
    let p = err_from_is_err_and c.from_residual-in_err-number.result c.from_residual-in_err-number.ensures.1 in
    let was : c.rename_word.result ≡ Err refusal = c.in_err-number.was in
    let refused : IsErrOf c.rename_word.result (Full book count) = cc (p.1, p.2, same, was) in
    c.rename_word.ensures.full book count refused

pub returns-in_err-number-clause-words : goal.returns-in_err-number-clause-words
returns-in_err-number-clause-words g c =
    let is : c.args.kind ≡ Word = search rules in
    let words = g.M.Names.words c.args.names.now in
    named_weaker (IsTextAt words c.args.word) (IsTextAmong words (word_numbers (c.args.kind ∷ []) (c.args.word ∷ []))) (slot_text words c.args.kind c.args.word is) words (g.N.Namer.words c.args.namer.now) (g.N.Namer.words c.rename_word.new.namer)
    c.rename_word.new.table.numbers.items c.rename_word.ensures.words
