use Rattle.std.specs.Int.{w64}
use Rattle.std.proofs.lemmas.Int.{to_z-of_z}
use Rattle.archive_core.proofs.MessageLemmas.{stamp_found}
use Rattle.archive_core.proofs.message.stamp_is.Goals as goal

pub returns : goal.returns
returns c = λ version tells.
    let mark = c.mark_in-mark.result in
    let has = c.mark_in-mark.ensures version tells in
    let same = rw (to_z-of_z w64 c.args.moment c.ranges.moment) at c.is_mark.ensures in
    let found = stamp_found version c.args.message.now mark.pattern c.args.pattern mark.moment c.args.moment has.0 has.1 in
    (λ yes. found.0 (same.0 yes), λ other. same.1 (found.1 other))
