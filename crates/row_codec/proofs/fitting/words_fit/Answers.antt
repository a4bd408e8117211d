use Rattle.std.proofs.Common.{List, ℕ, length, sym, ◌∙◌, ap, subst, arith}
use Rattle.std.specs.Prelude.{◌==◌}
use Rattle.logtype_text.proofs.TextLemmas.{symbol_longer}
use Rattle.row_codec.specs.StepsBody.{HasBody}
use Rattle.row_codec.proofs.BodyLemmas.{fits_end, fits_no_more, fits_then, none_left, some_left}
use Rattle.row_codec.proofs.fitting.words_fit.Goals as goal

pub loop-symbol-init : goal.loop-symbol-init
loop-symbol-init g c = c.past_plain-rest.ensures.same (g.N.Names.words c.args.names.now) c.args.words.now

pub loop-symbol-smaller : goal.loop-symbol-smaller
loop-symbol-smaller g c =
    let longer = symbol_longer c.in-Some.symbol c.in-Some.after.now in
    omega (arith, ap length c.in-Some.ensures.some, c.past_plain-rest-in-Some.ensures.shorter)

pub loop-symbol-preserved : goal.loop-symbol-preserved
loop-symbol-preserved g c =
    let words = g.N.Names.words c.args.names.now in
    let others = c.in-Some-past_word.others.now in
    let after = c.in-Some.after.now in
    fits_then words c.loop-symbol.rest.now c.loop-symbol.left.now c.in-Some.symbol after others c.past_plain-rest-in-Some.result.now c.in-Some.ensures.some
    c.loop-symbol.invariant (c.in-Some-past_word.ensures.some after) (c.past_plain-rest-in-Some.ensures.same words others)

pub returns-then-is_empty : goal.returns-then-is_empty
returns-then-is_empty g c =
    let rest = c.loop-symbol.rest.now in
    let left = c.loop-symbol.left.now in
    let end = fits_end (g.N.Names.words c.args.names.now) rest left c.loop-symbol.invariant (none_left rest (sym c.is_empty.ensures ∙ c.if-is_empty.true)) in
    (λ yes. end.1 (none_left left (sym c.is_empty-then-is_empty.ensures ∙ yes)), λ has. c.is_empty-then-is_empty.ensures ∙ ap (λ (l : List ℕ). length l == 0) (end.0 has))

pub returns-else-is_empty : goal.returns-else-is_empty
returns-else-is_empty g c =
    let rest = c.loop-symbol.rest.now in (
      λ yes. absurd (cc (yes, c.if-is_empty.false)),
      λ has. absurd (fits_no_more (g.N.Names.words c.args.names.now) rest c.loop-symbol.left.now c.loop-symbol.invariant c.in_default.ensures.none (some_left rest (sym c.is_empty.ensures ∙ c.if-is_empty.false)) has),
    )

pub returns-in_default-past_word : goal.returns-in_default-past_word
returns-in_default-past_word g c =
    let words = g.N.Names.words c.args.names.now in (
      λ yes. absurd (cc yes),
      λ has. absurd (c.in_default-past_word.ensures.none c.in-Some.after.now (subst (λ t. HasBody words t c.loop-symbol.left.now) c.in-Some.ensures.some (c.loop-symbol.invariant.0 has))),
    )
