use Rattle.std.proofs.Common.{◌≡◌, pos, nat_abs, to_z, of_z, w64, subst, ◌∙◌, inl, inr, arith, rules}
use Rattle.std.specs.Result.{OkIff}
use Rattle.std.specs.Int.{FitsUnsignedBits}
use Rattle.std.proofs.lemmas.Int.{to_z-of_z}
use Rattle.command_words.proofs.NumberLemmas.{coded_is, unsigned_is}
use Rattle.command_words.proofs.number.read_plain.Goals as goal

pub returns-in-Whole-clause-all : goal.returns-in-Whole-clause-all
returns-in-Whole-clause-all c = λ n small prints.
    let same = coded_is c.as_bytes.result.now c.encode.result n c.encode.ensures small (c.as_bytes.ensures.value ∙ prints) in
    let number : c.in-Whole.number ≡ pos n = cc (c.in-Whole.is) in
    let kept : to_z w64 (of_z w64 c.in-Whole.number) ≡ pos n = to_z-of_z w64 c.in-Whole.number (c.in-Whole.ensures.fits) ∙ number in
    c.ok.ensures.value ∙ unsigned_is c.try_from.result n (omega arith) (subst (λ z. OkIff c.try_from.result (FitsUnsignedBits 64 z) (nat_abs z)) kept c.try_from.ensures)

pub returns-in-Decimal : goal.returns-in-Decimal
returns-in-Decimal c = record {
  some = search rules;
  all = λ n small prints.
      let same = coded_is c.as_bytes.result.now c.encode.result n c.encode.ensures small (c.as_bytes.ensures.value ∙ prints) in
      elim c.in-Decimal.is [ inl other ↦ absurd (cc (other.1)) | inr other ↦ absurd (cc other) ];
}
