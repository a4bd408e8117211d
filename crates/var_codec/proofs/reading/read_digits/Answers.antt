-- The number has one digit less than there may be, so one more fits; a byte that is no digit and no first point ends the reading.
use Rattle.std.proofs.Common.{◌+◌, ◌*◌, arith, sym, ap, ◌∙◌, take, length-take-le, subst, Some}
use Rattle.var_codec.specs.Digits.{Reads}
use Rattle.var_codec.proofs.Digits.{reads_fits, next_digit, next_point, other_byte, second_point}
use Rattle.var_codec.proofs.reading.read_digits.Goals as goal
use Rattle.var_codec.proofs.reading.read_digits.Goals.{else-byte-eq46-via-then-byte-eq46+else-is_none, else-byte-eq46-via-else-byte-eq46, then-is_ascii_digit, else-is_ascii_digit+then-byte-eq46+then-is_none}

pub overflow_mul-number : goal.overflow_mul-number
overflow_mul-number c = omega (arith, reads_fits _ _ _ c.loop-i.invariant (omega (arith, length-take-le c.loop-i.i c.args.bytes.now)))

pub overflow_add-number : goal.overflow_add-number
overflow_add-number c = omega (arith, reads_fits _ _ _ c.loop-i.invariant (omega (arith, length-take-le c.loop-i.i c.args.bytes.now)))

pub returns-else-byte-eq46 : goal.returns-else-byte-eq46
returns-else-byte-eq46 c = elim c.else-byte-eq46.branch [
  | else-byte-eq46-via-then-byte-eq46+else-is_none w ↦ second_point c.args.bytes.now c.loop-i.i _ _ w.if-is_none.ensures c.loop-i-test.true c.loop-i.invariant w.if-byte-eq46.true
  | else-byte-eq46-via-else-byte-eq46 w ↦ other_byte c.args.bytes.now c.loop-i.i c.loop-i-test.true (λ d. omega (arith, c.if-is_ascii_digit.ensures.cases)) w.if-byte-eq46.false
]

pub loop-i-preserved : goal.loop-i-preserved
loop-i-preserved c = elim c.if-is_ascii_digit.branch [
  | then-is_ascii_digit w ↦
      subst (λ p. Reads (take (c.loop-i.i + 1) c.args.bytes.now) c.if-is_ascii_digit.number p) (sym w.point-is)
      (next_digit c.args.bytes.now c.loop-i.i _ _ _ c.loop-i-test.true w.if-is_ascii_digit.ensures.cases c.loop-i.invariant (w.number-is ∙ ap (λ d. c.loop-i.number * 10 + d) w.from.ensures))
  | else-is_ascii_digit+then-byte-eq46+then-is_none w ↦
      subst (λ p. Reads (take (c.loop-i.i + 1) c.args.bytes.now) c.if-is_ascii_digit.number p) (sym w.point-is)
      (subst (λ n. Reads (take (c.loop-i.i + 1) c.args.bytes.now) n (Some c.loop-i.i)) (sym w.number-is)
      (next_point c.args.bytes.now c.loop-i.i _ _ w.if-is_none.ensures c.loop-i-test.true w.if-byte-eq46.true c.loop-i.invariant))
]
