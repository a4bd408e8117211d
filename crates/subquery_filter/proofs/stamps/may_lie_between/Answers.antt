use Rattle.std.proofs.Common.{◌≡◌, of_z, rules, to_z, w64}
use Rattle.subquery_filter.proofs.AroundLemmas.{lies_not, matched_by}
use Rattle.subquery_filter.proofs.stamps.may_lie_between.Goals as goal

pub returns-then-may_lie_across : goal.returns-then-may_lie_across
returns-then-may_lie_across c = λ never moment s low high prints.
    let least : to_z w64 (of_z w64 c.args.least) ≡ c.args.least = search rules in
    let greatest : to_z w64 (of_z w64 c.args.greatest) ≡ c.args.greatest = search rules in
    lies_not c.args.token.now.chunk c.args.token.now.text s
    (matched_by _ c.args.token.now.chunk s c.as_slice-chunk.ensures (c.may_hold_between.ensures.none c.if-may_hold_between.false moment s (rw least low) (rw greatest high) prints))
    (λ ends. matched_by _ c.args.token.now.text s c.as_slice.ensures (c.may_hold_between-then-may_lie_across.ensures.none never moment s (rw least low) (rw greatest high) prints))

pub returns-else-may_lie_across : goal.returns-else-may_lie_across
returns-else-may_lie_across c = λ never moment s low high prints.
    let least : to_z w64 (of_z w64 c.args.least) ≡ c.args.least = search rules in
    let greatest : to_z w64 (of_z w64 c.args.greatest) ≡ c.args.greatest = search rules in
    lies_not c.args.token.now.chunk c.args.token.now.text s
    (matched_by _ c.args.token.now.chunk s c.as_slice-chunk.ensures (c.may_hold_between.ensures.none c.if-may_hold_between.false moment s (rw least low) (rw greatest high) prints))
    (λ ends m. (rw c.as_slice-chunk.ensures at c.may_lie_across.ensures) c.if-may_lie_across.false moment s prints ends)
