use Rattle.std.proofs.Common.{◌≡◌, ◌+◌, ◌-◌, ◌∙◌, pos, length, get_or, unsigned_abs, ap, w8, w16, arith, rules}
use Rattle.std.proofs.lemmas.Int.{to_z_pos}
use Rattle.jiff_core.proofs.SignedLemmas.{signed_arith}
use Rattle.time_patterns.proofs.DigitLemmas.{six}
use Rattle.time_patterns.proofs.civil_time.CivilTime.new.Goals as goal

pub returns-clause-some : goal.returns-clause-some
returns-clause-some c =
    let long : length c.args.numbers ≡ 6 = search rules in
    let year : c.in-Ok.date.year ≡ pos (c.args.first_year + get_or c.args.numbers 0 0) = c.in-Ok.ensures.value.0 ∙ to_z_pos w16 _ (omega arith) ∙ ap (λ f. pos (f + get_or c.args.numbers 0 0)) c.from.ensures in
    let month : pos c.in-Ok.date.month ≡ pos (get_or c.args.numbers 1 0) = c.in-Ok.ensures.value.1 ∙ to_z_pos w8 _ (omega arith) in
    let day : pos c.in-Ok.date.day ≡ pos (get_or c.args.numbers 2 0) = c.in-Ok.ensures.value.2 ∙ to_z_pos w8 _ (omega arith) in
    let years : unsigned_abs c.in-Ok.date.year - c.args.first_year ≡ get_or c.args.numbers 0 0 = rw year (omega arith) in
    (rw year (omega (arith, signed_arith)), cc (six c.args.numbers long, years, month, day))
