use Rattle.std.proofs.Common.{◌≡◌, ◌<◌, ◌∙◌, sym, ap, subst, length, Some, slice_get}
use Rattle.dict_core.specs.Buffer.{text_at}
use Rattle.dict_core.proofs.BufferLemmas.{length-texts_from, texts_get}
use Rattle.dict_core.proofs.texts.Texts.at.Goals as goal

pub cut-requires-clause-within : goal.cut-requires-clause-within
cut-requires-clause-within c =
    let count = ap length (sym c.self.view_is) ∙ length-texts_from c.self.inside.bytes.items 0 c.self.inside.ends.items ∙ ap length (sym c.as_slice-2.ensures.value) in
    subst (λ n. c.args.number < n) count c.requires

pub returns : goal.returns
returns c =
    let bytes = c.self.inside.bytes.items in let ends = c.self.inside.ends.items in
    let count = ap length (sym c.self.view_is) ∙ length-texts_from bytes 0 ends in
    let cut : c.cut.result.now ≡ text_at bytes ends c.args.number = c.cut.ensures ∙ (λ i. text_at (c.as_slice.ensures.value i) (c.as_slice-2.ensures.value i) c.args.number) in
    let got = texts_get bytes 0 ends c.args.number (subst (λ n. c.args.number < n) count c.requires) in
    ap (λ texts. slice_get texts c.args.number) (sym c.self.view_is) ∙ got ∙ ap (λ t. Some t) (sym cut)
