use Rattle.std.proofs.Common.{refl, sym, subst}
use Rattle.std.specs.Prelude.{◌↔◌, IsTrue}
use Rattle.logtype_text.specs.declared.symbols.Kind.{Kind}
use Rattle.row_codec.specs.StepsCut.{IsHeldWord}
use Rattle.archive_core.proofs.HeldLemmas.{decimal_held, whole_held, word_held}
use Rattle.archive_core.proofs.held.holds_word.Goals as goal

pub returns-in-Whole : goal.returns-in-Whole
returns-in-Whole g c =
    let words = (g.N.Names.words c.args.names.now) in
    (λ yes. subst (λ (k : Kind). IsHeldWord words c.args.slot.prev k c.args.word) (sym c.in-Whole.is) (whole_held words c.args.slot.prev c.args.word c.ranges.word.fits), λ has. refl)

pub returns-in-Decimal : goal.returns-in-Decimal
returns-in-Decimal g c =
    let words = (g.N.Names.words c.args.names.now) in
    let held = decimal_held words c.args.slot.prev c.args.word in
    subst (λ (k : Kind). IsTrue c.decimal_ok.result ↔ IsHeldWord words c.args.slot.prev k c.args.word) (sym c.in-Decimal.is)
    (λ yes. held.0 (c.decimal_ok.ensures.text.0 yes), λ has. c.decimal_ok.ensures.text.1 (held.1 has))

pub returns-in-Some : goal.returns-in-Some
returns-in-Some g c =
    let words = (g.N.Names.words c.args.names.now) in
    let held = word_held words c.args.slot.prev c.args.word c.in-Some.text.now c.in-Some.ensures in
    subst (λ (k : Kind). IsTrue c.is_held_text.result ↔ IsHeldWord words c.args.slot.prev k c.args.word) (sym c.in-Word.is)
    (λ yes. held.0 (c.is_held_text.ensures.0 yes), λ has. c.is_held_text.ensures.1 (held.1 has))
