use Rattle.std.proofs.Common.{subst, sym}
use Rattle.std.specs.Int.{w64}
use Rattle.std.proofs.lemmas.Int.{to_z-of_z}
use Rattle.row_codec.specs.Means.{HasStampText}
use Rattle.row_codec.proofs.StampLemmas.{stamp_printed, stamp_writing}
use Rattle.row_codec.proofs.laying.lay_stamp.Goals as goal

pub returns-clause-written : goal.returns-clause-written
returns-clause-written c =
    let prints = rw (to_z-of_z w64 c.args.moment c.ranges.moment) at c.in-Some.ensures.text in
    let stamped = stamp_printed c.args.pattern c.args.moment _ c.if-pattern-eq0.false prints in
    subst (λ t. HasStampText c.args.pattern c.args.moment t) (sym c.put_front.ensures.written) stamped

pub returns-in_default-clause-misfit : goal.returns-in_default-clause-misfit
returns-in_default-clause-misfit c = λ has.
    let none = rw (to_z-of_z w64 c.args.moment c.ranges.moment) at c.in_default.ensures.none in
    none ((stamp_writing c.args.pattern c.args.moment c.if-pattern-eq0.false).0 has)
