use Rattle.std.proofs.Common.{◌≡◌, ◌+◌, ◌≤◌, ◌∷◌, ◌++◌, [], ◌∙◌, sym, ap, subst, length, arith}
use Rattle.std.proofs.lemmas.List.{length-append, length_push}
use Rattle.dict_core.specs.Buffer.{Rise, texts_from}
use Rattle.dict_core.proofs.BufferLemmas.{length-texts_from, texts_more, rise_more}
use Rattle.dict_core.proofs.texts.Texts.push.Goals as goal

pub invariant_of-self-2 : goal.invariant_of-self-2
invariant_of-self-2 c =
    let bytes = c.self.inside.bytes.items in let ends = c.self.inside.ends.items in
    let bytes_are : c.extend_from_slice.new.self.items ≡ bytes ++ c.args.text.now = c.in_ok-extend_from_slice.ensures.items in
    let last : c.len.result ≡ length c.extend_from_slice.new.self.items = c.len.ensures ∙ c.extend_from_slice.new.self.ok.0 in
    let ends_are : c.push_reserved.new.self.items ≡ ends ++ c.len.result ∷ [] = c.push_reserved.ensures.items ∙ ap (λ es. es ++ c.len.result ∷ []) c.in_ok-reserve.ensures.items in
    let more : length bytes ≤ c.len.result = omega (arith, last, ap length bytes_are, length-append bytes c.args.text.now) in
    let rise = rise_more 0 ends (length bytes) c.len.result c.self.invariant.0 more in
    let count : length ends ≡ length c.args.self.now = sym (length-texts_from bytes 0 ends) ∙ ap length c.self.view_is in (
      subst (λ es. Rise 0 es (length c.extend_from_slice.new.self.items)) (sym ends_are) (subst (Rise 0 (ends ++ c.len.result ∷ [])) last rise),
      omega (arith, ap length ends_are, length_push ends c.len.result, count, c.requires.room),
    )

pub returns-clause-ok : goal.returns-clause-ok
returns-clause-ok c =
    let bytes = c.self.inside.bytes.items in let ends = c.self.inside.ends.items in
    let bytes_are : c.extend_from_slice.new.self.items ≡ bytes ++ c.args.text.now = c.in_ok-extend_from_slice.ensures.items in
    let last : c.len.result ≡ length bytes + length c.args.text.now =
    c.len.ensures ∙ c.extend_from_slice.new.self.ok.0 ∙ ap length bytes_are ∙ length-append bytes c.args.text.now in
    let ends_are : c.push_reserved.new.self.items ≡ ends ++ c.len.result ∷ [] = c.push_reserved.ensures.items ∙ ap (λ es. es ++ c.len.result ∷ []) c.in_ok-reserve.ensures.items in
    (λ i. texts_from (bytes_are i) 0 (ends_are i)) ∙ texts_more bytes c.args.text.now 0 ends c.len.result c.self.invariant.0 last
    ∙ ap (λ texts. texts ++ c.args.text.now ∷ []) c.self.view_is
