use Rattle.std.proofs.Common.{◌≡◌, Some, w64, ap, ◌∙◌, inl, inr}
use Rattle.std.proofs.lemmas.Int.{to_z-of_z}
use Rattle.command_words.proofs.NumberLemmas.{signed_is}
use Rattle.command_words.proofs.number.read_moment.Goals as goal

pub returns-in-Whole-clause-all : goal.returns-in-Whole-clause-all
returns-in-Whole-clause-all c = λ z fits prints.
    let same = signed_is c.as_bytes.result.now c.encode.result z c.encode.ensures fits (c.as_bytes.ensures.value ∙ prints) in
    let number : c.in-Whole.number ≡ z = cc (c.in-Whole.is) in
    ap Some (to_z-of_z w64 c.in-Whole.number (c.in-Whole.ensures.fits) ∙ number)

pub returns-in-Decimal : goal.returns-in-Decimal
returns-in-Decimal c = record {
  fits = tt;
  some = tt;
  all = λ z fits prints.
      let same = signed_is c.as_bytes.result.now c.encode.result z c.encode.ensures fits (c.as_bytes.ensures.value ∙ prints) in
      elim c.in-Decimal.is [ inl other ↦ absurd (cc (other.1)) | inr other ↦ absurd (cc other) ];
}
