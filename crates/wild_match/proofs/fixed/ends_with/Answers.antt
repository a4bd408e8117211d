use Rattle.std.proofs.Common.{◌-◌, length, arith}
use Rattle.std.proofs.lemmas.Bool.{false≢true}
use Rattle.std.proofs.lemmas.List.{take_rest}
use Rattle.wild_match.proofs.Matching.{Match-last, last-Match}
use Rattle.wild_match.proofs.fixed.ends_with.Goals as goal

pub returns-then-bytes-fixed : goal.returns-then-bytes-fixed
returns-then-bytes-fixed c = (
  λ no. absurd (false≢true no),
  λ m. absurd (omega (arith, (Match-last c.args.fixed.now c.args.bytes.now c.requires m).0)),
)

pub returns : goal.returns
returns c =
    let h = rw (take_rest c.args.bytes.now (length c.args.bytes.now - length c.args.fixed.now)) at c.fits.ensures.fits in (
      λ yes. last-Match c.args.fixed.now c.args.bytes.now c.if-bytes-fixed.false (h.0 yes),
      λ m. h.1 (Match-last c.args.fixed.now c.args.bytes.now c.requires m).1,
    )
