use Rattle.std.proofs.Common.{◌≡◌, ◌-◌, ◌/◌, ◌%◌, unsigned_abs, refl, arith}
use Rattle.jiff_core.proofs.SignedLemmas.{signed_arith}
use Rattle.time_patterns.specs.Digits.{digits, fields_text}
use Rattle.time_patterns.proofs.shape.short_front.Goals as goal

pub returns : goal.returns
unfolding digits fields_text
returns c = λ t low high date clock.
    let y = unsigned_abs t.date.year in
    let tens : (y - 2000) / 10 % 10 ≡ y / 10 % 10 = omega (arith, signed_arith) in
    let ones : (y - 2000) % 10 ≡ y % 10 = omega (arith, signed_arith) in
    rw (date, clock, tens, ones) refl
