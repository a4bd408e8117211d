use Rattle.std.proofs.Common.{refl, sym, subst, take, rules}
use Rattle.std.specs.Prelude.{◌↔◌, IsTrue}
use Rattle.row_codec.specs.Means.{IsWritten}
use Rattle.row_codec.specs.StepsCut.{IsHeldWord}
use Rattle.row_codec.proofs.CutTextLemmas.{held_is}
use Rattle.var_codec.specs.declared.Coded.TheVariants.{Whole as WholeWord, Decimal as DecimalWord}
use Rattle.logtype_text.specs.declared.symbols.Kind.{Kind}
use Rattle.logtype_text.specs.declared.symbols.Kind.TheVariants.{Whole, Decimal}
use Rattle.row_codec.proofs.cutting.holds_word.Goals as goal

pub returns-in-Whole : goal.returns-in-Whole
returns-in-Whole g c =
    let words = g.N.Names.words c.args.names.now in
    let text = take c.whole_text-len.result c.whole_text-len.new.out in
    let written : IsWritten words Whole text c.args.word = search rules in
    let tells = held_is words c.args.prev Whole c.args.word text written (WholeWord written.0, written.1, refl) in
    let held = c.holds_token.ensures in
    subst (λ (k : Kind). IsTrue c.holds_token.result ↔ IsHeldWord words c.args.prev k c.args.word) (sym c.in-Whole.is)
    (λ yes. tells.0 (held.0 yes), λ has. held.1 (tells.1 has))

pub returns-else-not-decimal_ok : goal.returns-else-not-decimal_ok
returns-else-not-decimal_ok g c =
    let words = g.N.Names.words c.args.names.now in
    let text = take c.decimal_text-len.result c.decimal_text-len.new.out in
    let tells = held_is words c.args.prev Decimal c.args.word text c.decimal_text-len.ensures.text (DecimalWord c.args.word, c.decimal_text-len.ensures.text, refl) in
    let held = c.holds_token-in-Decimal.ensures in
    subst (λ (k : Kind). IsTrue c.holds_token-in-Decimal.result ↔ IsHeldWord words c.args.prev k c.args.word) (sym c.in-Decimal.is)
    (λ yes. tells.0 (held.0 yes), λ has. held.1 (tells.1 has))
