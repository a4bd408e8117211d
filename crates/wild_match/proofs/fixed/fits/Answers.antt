use Rattle.std.proofs.Common.{◌<◌, length, arith}
use Rattle.std.proofs.lemmas.Bool.{false≢true}
use Rattle.wild_match.proofs.Matching.{Fits-length}
use Rattle.wild_match.proofs.Stepping.{fits_byte, fits_one}
use Rattle.wild_match.specs.declared.pattern.Item.TheVariants.{Byte}
use Rattle.wild_match.proofs.fixed.fits.Goals as goal
use Rattle.wild_match.proofs.fixed.fits.Goals.{in-Byte+else-bytes-i, in-One}

pub returns-then-bytes-fixed-clause-fits : goal.returns-then-bytes-fixed-clause-fits
returns-then-bytes-fixed-clause-fits c = (λ no. absurd (false≢true no), λ f. absurd (omega (arith, Fits-length c.args.fixed.now c.args.bytes.now f)))

pub loop-i-preserved : goal.loop-i-preserved
loop-i-preserved c =
    let p = c.args.fixed.now in
    let s = c.args.bytes.now in
    let here : c.loop-i.i < length p = c.loop-i-test.true in
    let there : c.loop-i.i < length s = omega arith in
    elim c.match-fixed-i.branch [
      | in-Byte+else-bytes-i w ↦ (
          let step = fits_byte p s c.loop-i.i (Byte 0) here there w.in-Byte.byte w.in-Byte.is w.if-bytes-i.false in
          (λ f. c.loop-i.invariant.0 (step.0 f), λ f. step.1 (c.loop-i.invariant.1 f))
          )
      | in-One w ↦ (
          let step = fits_one p s c.loop-i.i (Byte 0) here there w.in-One.is in
          (λ f. c.loop-i.invariant.0 (step.0 f), λ f. step.1 (c.loop-i.invariant.1 f))
          )
    ]
