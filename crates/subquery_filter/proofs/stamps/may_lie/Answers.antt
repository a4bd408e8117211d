use Rattle.subquery_filter.proofs.AroundLemmas.{lies_not, matched_by}
use Rattle.subquery_filter.proofs.stamps.may_lie.Goals as goal

pub returns-then-may_lie_across : goal.returns-then-may_lie_across
returns-then-may_lie_across c = λ never moment s prints.
    lies_not c.args.token.now.chunk c.args.token.now.text s (matched_by _ c.args.token.now.chunk s c.as_slice-chunk.ensures (c.may_hold.ensures.none c.if-may_hold.false moment s prints))
    (λ ends. matched_by _ c.args.token.now.text s c.as_slice.ensures (c.may_hold-then-may_lie_across.ensures.none never moment s prints))

pub returns-else-may_lie_across : goal.returns-else-may_lie_across
returns-else-may_lie_across c = λ never moment s prints.
    lies_not c.args.token.now.chunk c.args.token.now.text s (matched_by _ c.args.token.now.chunk s c.as_slice-chunk.ensures (c.may_hold.ensures.none c.if-may_hold.false moment s prints))
    (λ ends m. (rw c.as_slice-chunk.ensures at c.may_lie_across.ensures) c.if-may_lie_across.false moment s prints ends)
