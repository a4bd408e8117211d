use Rattle.std.proofs.Common.{◌≡◌, ◌-◌, ◌≤◌, ◌∙◌, sym, ap, subst, length, take, arith}
use Rattle.std.proofs.lemmas.List.{length-take, length-take-le}
use Rattle.dict_core.specs.Buffer.{Rise, texts_from, start_from, start_at}
use Rattle.dict_core.proofs.BufferLemmas.{length-texts_from, texts_less, rise_less, start_last, start_take}
use Rattle.dict_core.proofs.texts.Texts.pop.Goals as goal

pub invariant_of-self : goal.invariant_of-self
invariant_of-self c =
    let bytes = c.self.inside.bytes.items in let ends = c.self.inside.ends.items in
    let n = length ends - 1 in
    let low : n ≤ length ends = omega arith in
    let count : c.len.result - 1 ≡ n = omega (arith, c.len.ensures, c.self.inside.ends.ok.0) in
    let ends_are : c.truncate.new.self.items ≡ take n ends = c.truncate.ensures.items ∙ ap (λ m. take m ends) count in
    let left : c.len-2.result ≡ n = c.len-2.ensures ∙ c.truncate.new.self.ok.0 ∙ ap length ends_are ∙ length-take-le n ends low in
    let cut : c.start_of.result ≡ start_from 0 ends n =
    c.start_of.ensures ∙ (λ i. start_at ((c.as_slice.ensures.value ∙ ends_are) i) (left i)) ∙ start_take 0 ends n in
    let within : c.start_of.result ≤ length bytes = omega (arith, cut, start_last 0 ends (length bytes) n c.self.invariant.0 low) in
    let last : length c.truncate-2.new.self.items ≡ start_from 0 ends n = ap length c.truncate-2.ensures.items ∙ length-take-le c.start_of.result bytes within ∙ cut in
    let rise = rise_less 0 ends (length bytes) n c.self.invariant.0 low in (
      subst (λ es. Rise 0 es (length c.truncate-2.new.self.items)) (sym ends_are) (subst (Rise 0 (take n ends)) (sym last) rise),
      omega (arith, ap length ends_are, length-take-le n ends low, c.self.invariant.1),
    )

pub returns : goal.returns
returns c =
    let bytes = c.self.inside.bytes.items in let ends = c.self.inside.ends.items in
    let n = length ends - 1 in
    let low : n ≤ length ends = omega arith in
    let count : c.len.result - 1 ≡ n = omega (arith, c.len.ensures, c.self.inside.ends.ok.0) in
    let ends_are : c.truncate.new.self.items ≡ take n ends = c.truncate.ensures.items ∙ ap (λ m. take m ends) count in
    let left : c.len-2.result ≡ n = c.len-2.ensures ∙ c.truncate.new.self.ok.0 ∙ ap length ends_are ∙ length-take-le n ends low in
    let cut : c.start_of.result ≡ start_from 0 ends n =
    c.start_of.ensures ∙ (λ i. start_at ((c.as_slice.ensures.value ∙ ends_are) i) (left i)) ∙ start_take 0 ends n in
    let reaches : start_from 0 ends n ≤ c.start_of.result = omega (arith, cut) in
    let fewer : n ≡ length c.args.self.now - 1 = omega (arith, length-texts_from bytes 0 ends, ap length c.self.view_is) in
    (λ i. texts_from (c.truncate-2.ensures.items i) 0 (ends_are i)) ∙ texts_less bytes c.start_of.result 0 ends n c.self.invariant.0 low reaches
    ∙ (λ i. take (fewer i) (c.self.view_is i))
