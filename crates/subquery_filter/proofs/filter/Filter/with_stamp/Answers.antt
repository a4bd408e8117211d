use Rattle.std.proofs.Common.{◌≡◌, of_z, rules, to_z, w64}
use Rattle.subquery_filter.proofs.BitLemmas.{has_left, has_self}
use Rattle.subquery_filter.proofs.SlotLemmas.{stamp_brings, stamp_more}
use Rattle.subquery_filter.proofs.filter.Filter.with_stamp.Goals as goal

pub returns-then-not-has-clause-more : goal.returns-then-not-has-clause-more
returns-then-not-has-clause-more c = has_left c.args.bits c.args.may c.args.bits (has_self c.args.bits)

pub returns-then-not-has-clause-stamp : goal.returns-then-not-has-clause-stamp
returns-then-not-has-clause-stamp c = λ s marks stamped. stamp_more c.args.self.now.tokens.items s c.args.bits c.args.may (marks stamped)

pub returns-clause-more : goal.returns-clause-more
returns-clause-more c = has_left c.args.bits c.stamp_bits.result c.args.bits (has_self c.args.bits)

pub returns-clause-stamp : goal.returns-clause-stamp
returns-clause-stamp c = λ s marks stamped.
    let moment : to_z w64 (of_z w64 c.args.row.moment) ≡ c.args.row.moment = search rules in
    let tells = rw moment at c.stamp_bits.ensures in
    stamp_brings c.args.self.now.tokens.items c.as_slice.result.now c.args.may c.args.bits c.stamp_bits.result c.args.row.pattern c.args.row.moment s
    c.as_slice.ensures.value marks tells stamped
