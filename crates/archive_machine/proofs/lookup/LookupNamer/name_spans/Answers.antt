use Rattle.std.proofs.Common.{rules, arith, ◌≡◌, ◌<◌, ◌+◌, ◌++◌, ◌∷◌, [], length, take, subst, sym, Some, slice_get}
use Rattle.logtype_text.specs.Encoded.{texts_at}
use Rattle.logtype_text.specs.declared.spans.Span.{Span}
use Rattle.row_codec.specs.Naming.{AreNumbers}
use Rattle.plain_list.specs.Texts.{IsNew}
use Rattle.row_codec.proofs.GrowthLemmas.{text_here, texts_long}
use Rattle.archive_machine.proofs.CodeLemmas.{limit_met, numbers_more}
use Rattle.archive_machine.proofs.lookup.LookupNamer.name_spans.Goals as goal

abbrev nowhere : Span
nowhere = record { start = 0; end = 0 }

pub returns-in_err-number-clause-full : goal.returns-in_err-number-clause-full
returns-in_err-number-clause-full c = λ book count is.
    let line = c.args.line.now in
    let spans = c.args.spans.now in
    let i = c.loop-span.span-index in
    let low : i < length spans = c.loop-span-test.true in
    let all = c.in_err-number.ensures.full book count (search (rules, is)) in (
      all.0,
      limit_met c.args.self.now.words.now c.loop-span.numbers.items (texts_at line spans) i count (omega (arith, low, texts_long line spans)) c.loop-span.invariant
          (subst (λ t. IsNew c.args.self.now.words.now t) (sym (text_here line spans i nowhere low)) all.1) all.2,
    )

pub loop-span-preserved : goal.loop-span-preserved
loop-span-preserved c =
    let line = c.args.line.now in
    let spans = c.args.spans.now in
    let i = c.loop-span.span-index in
    let low : i < length spans = c.loop-span-test.true in
    let pushed : c.push.new.self.items ≡ c.loop-span.numbers.items ++ c.in_ok-number.number ∷ [] = search rules in
    subst (λ l. AreNumbers c.args.self.now.words.now l (take (i + 1) (texts_at line spans))) (sym pushed)
    (numbers_more c.args.self.now.words.now c.loop-span.numbers.items (texts_at line spans) i c.in_ok-number.number (omega (arith, low, texts_long line spans)) c.loop-span.invariant
    (subst (λ t. slice_get c.args.self.now.words.now c.in_ok-number.number ≡ Some t) (sym (text_here line spans i nowhere low)) c.in_ok-number.ensures.named))
