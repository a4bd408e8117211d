use Rattle.std.proofs.Common.{◌≡◌, ◌<◌, ◌+◌, ◌++◌, ◌∷◌, [], ℕ, Bool, cond, List, length, get_or, take, subst, sym, ◌∙◌, ap, arith}
use Rattle.std.specs.Prelude.{not, slice_range}
use Rattle.std.specs.List.{Contains}
use Rattle.std.proofs.lemmas.List.Elements.{Contains-get_or}
use Rattle.logtype_text.specs.Encoded.{texts_at}
use Rattle.logtype_text.specs.declared.spans.Span.{Span}
use Rattle.row_codec.specs.declared.namer.Which.TheVariants.{Words}
use Rattle.row_codec.specs.Naming.{AreNumbers}
use Rattle.plain_list.specs.Texts.{IsNew}
use Rattle.row_tests.proofs.BooksLemmas.{named_grows, next_full, next_named}
use Rattle.row_codec.proofs.GrowthLemmas.{grows_then, text_here, texts_long}
use Rattle.row_tests.proofs.books.BooksNamer.name_spans.Goals as goal

abbrev nowhere : Span
nowhere = record { start = 0; end = 0 }

-- the text at a place is one of the texts
here : (line : List ℕ) (spans : List Span) (i : ℕ) → i < length spans → Contains (texts_at line spans) (slice_range line (get_or spans i nowhere).start (get_or spans i nowhere).end)
here line spans i low =
    let long = texts_long line spans in
    subst (λ t. Contains (texts_at line spans) t) (text_here line spans i nowhere low) (Contains-get_or (texts_at line spans) i [] (omega arith))

pub loop-span-preserved : goal.loop-span-preserved
loop-span-preserved c =
    let line = c.args.line.now in
    let spans = c.args.spans.now in
    let i = c.loop-span.span-index in
    let span = get_or spans i nowhere in
    let text = slice_range line span.start span.end in
    let low : i < length spans = c.loop-span-test.true in
    let long = texts_long line spans in
    let ok = c.is_err.ensures.negation ∙ ap not c.if-is_err.false in
    let old = c.loop-span.numbers.items in
    let pushed : c.push.new.self.items ≡ old ++ c.in-Ok.number ∷ [] = c.push.ensures.items ∙ ap (λ (b : Bool). cond b (old ++ c.in-Ok.number ∷ []) old) ok in
    let both = next_named (Contains (texts_at line spans)) c.args.self.now.words c.loop-span.self.words c.name_in.new.book old (texts_at line spans) text i c.in-Ok.number
    (omega arith) (text_here line spans i nowhere low) (here line spans i low) c.loop-span.invariant.grown c.loop-span.invariant.named c.in-Ok.ensures.named in
    record { others = c.loop-span.invariant.others; grown = both.0; named = subst (λ l. AreNumbers c.name_in.new.book.texts l (take (i + 1) (texts_at line spans))) (sym pushed) both.1 }

pub returns-then-is_err-clause-grown : goal.returns-then-is_err-clause-grown
returns-then-is_err-clause-grown c =
    let line = c.args.line.now in
    let spans = c.args.spans.now in
    let i = c.loop-span.span-index in
    let span = get_or spans i nowhere in
    let text = slice_range line span.start span.end in
    grows_then (Contains (texts_at line spans)) _ _ _ c.loop-span.invariant.grown
    (named_grows (Contains (texts_at line spans)) c.loop-span.self.words c.name_in.new.book text c.in-Ok.number c.in-Ok.ensures.named (here line spans i c.loop-span-test.true))

pub returns-in-Err-clause-full : goal.returns-in-Err-clause-full
returns-in-Err-clause-full c = λ book count is.
    let line = c.args.line.now in
    let spans = c.args.spans.now in
    let i = c.loop-span.span-index in
    let low : i < length spans = c.loop-span-test.true in
    let long = texts_long line spans in
    let old = c.loop-span.self.words in
    next_full c.name_in.result Words book old c.name_in.new.book c.loop-span.numbers.items (texts_at line spans) i count (omega arith) c.loop-span.invariant.named (cc (c.in-Err.is, is)) c.name_in.ensures.err
    (λ b n same. let all = c.name_in.ensures.full b n same in (all.0, subst (λ t. IsNew old.texts t) (sym (text_here line spans i nowhere low)) all.1, all.2, all.3))
