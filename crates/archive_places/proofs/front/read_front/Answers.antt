use Rattle.std.proofs.Common.{◌≡◌, ℤ, take, sym, ap₂, ◌∙◌, rules, arith}
use Rattle.std.specs.Int.{w64}
use Rattle.std.proofs.lemmas.Int.{to_z-of_z}
use Rattle.std.proofs.lemmas.List.{take_all}
use Rattle.segment_format.specs.Layout.{fixed_bytes}
use Rattle.archive_places.proofs.front.read_front.Goals as goal

pub returns-in_err-fixed-clause-none : goal.returns-in_err-fixed-clause-none
returns-in_err-fixed-clause-none c = λ _ f is e.
    let whole : take 45 c.args.bytes.now ≡ c.args.bytes.now = take_all 45 c.args.bytes.now (omega (arith, c.requires)) in
    c.in_err-fixed.ensures.none (search rules) f is (whole ∙ e)

pub returns-clause-spelled : goal.returns-clause-spelled
returns-clause-spelled c =
    let fixed = c.in_ok-fixed.fixed in
    let fits = c.in_ok-fixed.ensures.fits in
    let whole : take 45 c.args.bytes.now ≡ c.args.bytes.now = take_all 45 c.args.bytes.now (omega (arith, c.requires)) in
    sym whole ∙ c.in_ok-fixed.ensures.spelled
    ∙ ap₂ (λ (least greatest : ℤ). fixed_bytes (record fixed { least = least; greatest = greatest })) (sym (to_z-of_z w64 fixed.least fits.least)) (sym (to_z-of_z w64 fixed.greatest fits.greatest))
