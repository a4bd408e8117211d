use Rattle.std.specs.Int.{w64}
use Rattle.std.proofs.lemmas.Int.{to_z-of_z}
use Rattle.group_count.proofs.minutes.put_run.Goals as goal

pub returns-in_ok-add_to : goal.returns-in_ok-add_to
returns-in_ok-add_to c = λ often room tally.
    let put = rw (to_z-of_z w64 c.args.first c.ranges.first) at c.in_ok-add_to.ensures in
    put often room tally
