use Rattle.std.proofs.Common.{◌<◌, ◌∙◌, ap, subst, length, slice_get, arith}
use Rattle.std.proofs.lemmas.Option.{slice_get_within}
use Rattle.dict_core.specs.Buffer.{texts_from}
use Rattle.dict_core.proofs.BufferLemmas.{length-texts_from}
use Rattle.dict_core.proofs.texts.Texts.number_of.Goals as goal

pub returns-in_err-number-clause-none : goal.returns-in_err-number-clause-none
returns-in_err-number-clause-none c =
    let bytes = c.self.inside.bytes.items in let ends = c.self.inside.ends.items in let text = c.args.text.now in
    let nowhere = rw (c.as_slice.ensures.value, c.as_slice-2.ensures.value) at c.in_err-number.ensures in
    rw c.from_residual.ensures (λ k found.
    let here = ap (λ texts. slice_get texts k) c.self.view_is ∙ found in
    let below : k < length ends = subst (λ n. k < n) (length-texts_from bytes 0 ends) (slice_get_within (texts_from bytes 0 ends) k text here) in
    nowhere k (omega arith) below here)
