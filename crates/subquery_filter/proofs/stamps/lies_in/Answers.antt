use Rattle.subquery_filter.proofs.AroundLemmas.{lies_not, matched_by}
use Rattle.subquery_filter.proofs.stamps.lies_in.Goals as goal

pub returns-then-lies_across : goal.returns-then-lies_across
returns-then-lies_across c = λ never.
    lies_not c.args.token.now.chunk c.args.token.now.text c.args.stamp.now (matched_by _ c.args.token.now.chunk c.args.stamp.now c.as_slice-chunk.ensures (c.stands_in.ensures c.if-stands_in.false))
    (λ ends. matched_by _ c.args.token.now.text c.args.stamp.now c.as_slice.ensures (c.stands_in-then-lies_across.ensures never))

pub returns-else-lies_across : goal.returns-else-lies_across
returns-else-lies_across c = λ never.
    lies_not c.args.token.now.chunk c.args.token.now.text c.args.stamp.now (matched_by _ c.args.token.now.chunk c.args.stamp.now c.as_slice-chunk.ensures (c.stands_in.ensures c.if-stands_in.false))
    (λ ends m. (rw c.as_slice-chunk.ensures at c.lies_across.ensures) c.if-lies_across.false ends)
