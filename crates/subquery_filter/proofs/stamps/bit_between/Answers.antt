use Rattle.std.proofs.Common.{◌≡◌, of_z, rules, to_z, w64}
use Rattle.subquery_filter.proofs.stamps.bit_between.Goals as goal

pub returns-else-may_lie_between : goal.returns-else-may_lie_between
returns-else-may_lie_between c = λ moment s low high prints lies.
    let least : to_z w64 (of_z w64 c.args.least) ≡ c.args.least = search rules in
    let greatest : to_z w64 (of_z w64 c.args.greatest) ≡ c.args.greatest = search rules in
    absurd (c.may_lie_between.ensures c.if-may_lie_between.false moment s (rw least low) (rw greatest high) prints lies)
