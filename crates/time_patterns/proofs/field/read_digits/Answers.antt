use Rattle.std.proofs.Common.{◌≡◌, ◌+◌, ◌<◌, ◌++◌, ◌∷◌, [], ◌∙◌, inl, inr, get_or, length, refl, sym, ap, lit<, arith, add-one}
use Rattle.std.proofs.lemmas.List.{take_more}
use Rattle.std.proofs.Math.Nat.{pow-suc}
use Rattle.time_patterns.specs.Digits.{digits}
use Rattle.time_patterns.proofs.DigitLemmas.{digit_at, digits-more}
use Rattle.time_patterns.proofs.field.read_digits.Goals as goal

pub loop-byte-init : goal.loop-byte-init
unfolding digits
loop-byte-init c = record { read = refl; small = lit< tt }

pub returns-then-not-is_ascii_digit-clause-none : goal.returns-then-not-is_ascii_digit-clause-none
returns-then-not-is_ascii_digit-clause-none c x e =
    let at = rw (← e) at (digit_at (length c.args.text.now) x c.loop-byte.byte-index (omega arith)) in
    elim c.if-not-is_ascii_digit.ensures.cases [ inl low ↦ omega arith | inr high ↦ omega arith ]

pub loop-byte-preserved : goal.loop-byte-preserved
loop-byte-preserved c =
    let cases = c.if-not-is_ascii_digit.ensures.cases in
    let i = c.loop-byte.byte-index in
    let byte = get_or c.args.text.now i 0 in
    let is : byte ≡ 48 + c.from.result = omega arith in
    let small : c.from.result < 10 = omega arith in
    record {
      read = take_more c.args.text.now i 0 (omega arith) ∙ ap (λ t. t ++ byte ∷ []) c.loop-byte.invariant.read ∙ ap (λ b. digits i c.loop-byte.number ++ b ∷ []) is ∙ sym (digits-more i c.loop-byte.number c.from.result small);
      small = rw (add-one, pow-suc) (omega arith);
    }
