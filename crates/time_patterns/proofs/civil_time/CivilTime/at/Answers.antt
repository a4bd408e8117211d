use Rattle.std.proofs.Common.{◌≡◌, pos, arith}
use Rattle.std.specs.Int.{int_div_euclid}
use Rattle.jiff_core.specs.Date.{epoch_day}
use Rattle.jiff_core.proofs.DateLemmas.{epoch_day_range}
use Rattle.jiff_core.proofs.SignedLemmas.{signed_arith}
use Rattle.time_patterns.proofs.civil_time.CivilTime.at.Goals as goal

pub returns-in_default-clause-none : goal.returns-in_default-clause-none
returns-in_default-clause-none c t e =
    let range = epoch_day_range t.date in
    let same : epoch_day t.date ≡ int_div_euclid c.args.micros (pos 86_400_000_000) = omega (arith, signed_arith) in
    let ok = c.in_default.ensures.succeeds.1 (omega (arith, signed_arith), omega (arith, signed_arith)) in cc
