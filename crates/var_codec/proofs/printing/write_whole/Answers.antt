-- The sign stands before the digits.
use Rattle.std.proofs.Common.{◌≡◌, ◌+◌, ◌-◌, ◌∷◌, ◌++◌, ◌∙◌, ap, drop, slice_set, arith, rules, to_z-of_z}
use Rattle.std.specs.Fmt.{decimal, signed_decimal}
use Rattle.std.proofs.lemmas.Fmt.{length-decimal-le}
use Rattle.std.proofs.lemmas.List.{drop-set}
use Rattle.itoa.proofs.Decimal.{minus_first}
use Rattle.var_codec.proofs.Wide.{sign_front}
use Rattle.var_codec.proofs.printing.write_whole.Goals as goal

pub write_digits-start-requires : goal.write_digits-start-requires
write_digits-start-requires c = (omega (arith, length-decimal-le 19 c.unsigned_abs.result (omega arith) (omega arith) (omega arith)), search rules)

pub overflow_sub-text : goal.overflow_sub-text
overflow_sub-text c = omega (arith, length-decimal-le 19 c.unsigned_abs.result (omega arith) (omega arith) (omega arith))

pub overflow_sub-result : goal.overflow_sub-result
overflow_sub-result c = omega (arith, length-decimal-le 19 c.unsigned_abs.result (omega arith) (omega arith) (omega arith))

pub returns-clause-text : goal.returns-clause-text
returns-clause-text c =
    let w = c.write_digits-start in
    let n = c.unsigned_abs.result in
    let long = length-decimal-le 19 n (omega arith) (omega arith) (omega arith) in
    let next : w.result - 1 + 1 ≡ w.result = omega arith in
    let back = to_z-of_z c.ranges.value in
    let all : drop (w.result - 1) (slice_set w.new.buf (w.result - 1) 45) ≡ 45 ∷ (decimal n ++ drop 20 c.args.text.now) =
    drop-set w.new.buf (w.result - 1) 45 (omega arith) ∙ ap (λ k. 45 ∷ drop k w.new.buf) next ∙ ap (λ l. 45 ∷ l) w.ensures.written in
    let minus : 45 ∷ decimal n ≡ signed_decimal c.args.value =
    rw (c.unsigned_abs.ensures.value, back) (minus_first c.args.value (rw back at c.if-value-ge0.false)) in
    sign_front 45 (decimal n) (drop 20 c.args.text.now) (drop (w.result - 1) (slice_set w.new.buf (w.result - 1) 45)) (20 - (w.result - 1)) all (omega (arith, w.ensures.start, long)) ∙ minus
