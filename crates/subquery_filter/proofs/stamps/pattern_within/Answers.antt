use Rattle.std.proofs.Common.{◌≡◌, ℕ, of_z, rules, subst, to_z, w64}
use Rattle.subquery_filter.specs.Filter.{StampMarks}
use Rattle.subquery_filter.proofs.stamps.pattern_within.Goals as goal

pub returns-then-may-eq0 : goal.returns-then-may-eq0
returns-then-may-eq0 c = λ moment s within prints marks. subst (λ (n : ℕ). StampMarks c.args.tokens.now s n) c.if-may-eq0.true marks

pub returns : goal.returns
returns c = λ moment s within prints marks.
    let least : to_z w64 (of_z w64 c.args.head.now.least) ≡ c.args.head.now.least = search rules in
    let greatest : to_z w64 (of_z w64 c.args.head.now.greatest) ≡ c.args.head.now.greatest = search rules in
    c.span_tokens.ensures moment s (rw least within.1) (rw greatest within.2) prints
