use Rattle.std.proofs.Common.{◌≡◌, ◌++◌, ap, sym, unsigned_abs, arith, to_z-of_z}
use Rattle.std.specs.Int.{w16}
use Rattle.jiff_core.proofs.SignedLemmas.{fits_between, signed_arith}
use Rattle.time_patterns.specs.Digits.{digits}
use Rattle.time_patterns.proofs.PairLemmas as pairs
use Rattle.time_patterns.proofs.digits.date_digits.Goals as goal

pub returns : goal.returns
unfolding digits
returns c =
    let d = c.args.date in
    let fits = fits_between w16 d.year (omega (arith, signed_arith, c.requires), omega (arith, signed_arith, c.requires)) in
    let year : c.unsigned_abs.result ≡ unsigned_abs d.year = rw (to_z-of_z fits) at c.unsigned_abs.ensures.value in
    rw (c.two_digits.ensures, c.two_digits-2.ensures, c.two_digits-3.ensures, c.two_digits-4.ensures, c.from-year.ensures, year, c.from.ensures, c.from-2.ensures)
    (ap (λ t. t ++ (digits 2 d.month ++ digits 2 d.day)) (sym (pairs.four_digits (unsigned_abs d.year))))
