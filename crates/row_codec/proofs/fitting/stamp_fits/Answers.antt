use Rattle.std.specs.Int.{w64}
use Rattle.std.proofs.lemmas.Int.{to_z-of_z}
use Rattle.row_codec.proofs.StampLemmas.{stamp_writing}
use Rattle.row_codec.proofs.fitting.stamp_fits.Goals as goal

pub returns : goal.returns
returns c =
    let same = stamp_writing c.args.pattern c.args.moment c.if-pattern-eq0.false in
    let tells = rw (to_z-of_z w64 c.args.moment c.ranges.moment) at c.stamp_ok.ensures in
    (λ yes. same.1 (tells.0 yes), λ has. tells.1 (same.0 has))
