use Rattle.std.proofs.Common.{◌≡◌, of_z, rules, to_z, w64}
use Rattle.subquery_filter.proofs.run_stamps.may_lie_between.Goals as goal

pub returns-then-not-may_hold : goal.returns-then-not-may_hold
returns-then-not-may_hold c = λ _ moment s low high prints. c.may_hold.ensures.none (search rules) moment s prints

pub returns : goal.returns
returns c = λ never moment s low high prints.
    let least : to_z w64 (of_z w64 c.args.least) ≡ c.args.least = search rules in
    let greatest : to_z w64 (of_z w64 c.args.greatest) ≡ c.args.greatest = search rules in
    c.may_hold_between.ensures.none never moment s (rw least low) (rw greatest high) prints
