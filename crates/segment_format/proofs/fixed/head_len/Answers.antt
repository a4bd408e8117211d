use Rattle.std.proofs.Common.{◌≡◌, take, refl, sym, ◌∙◌, arith}
use Rattle.std.proofs.lemmas.List.{take_all}
use Rattle.segment_format.proofs.fixed.head_len.Goals as goal

pub returns-in_err-fixed-clause-none : goal.returns-in_err-fixed-clause-none
returns-in_err-fixed-clause-none c = λ _ f is e.
    let whole : take 45 c.args.fixed.now ≡ c.args.fixed.now = take_all 45 c.args.fixed.now (omega (arith, c.told-fixed)) in
    c.in_err-fixed.ensures.none refl f is (whole ∙ e)

pub returns-clause-some : goal.returns-clause-some
returns-clause-some c =
    let whole : take 45 c.args.fixed.now ≡ c.args.fixed.now = take_all 45 c.args.fixed.now (omega (arith, c.told-fixed)) in
    (c.in_ok-fixed.fixed, c.in_ok-fixed.ensures.fits, sym whole ∙ c.in_ok-fixed.ensures.spelled, c.head_len.ensures)
