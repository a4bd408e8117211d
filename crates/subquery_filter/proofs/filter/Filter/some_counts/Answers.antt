use Rattle.std.proofs.Common.{List, rules, subst}
use Rattle.std.specs.Prelude.{All}
use Rattle.subquery_filter.specs.declared.token.Token.{Token}
use Rattle.subquery_filter.specs.Filter.{IsNoCode}
use Rattle.subquery_filter.proofs.NeedLemmas.{counts_none}
use Rattle.subquery_filter.proofs.filter.Filter.some_counts.Goals as goal

pub returns-else-marks_of-ne0 : goal.returns-else-marks_of-ne0
returns-else-marks_of-ne0 c = λ none.
    counts_none c.args.self.now c.args.block.now c.marks_of.result c.marks_of.ensures (search rules)
    (subst (λ (l : List Token). All (λ k. All (IsNoCode k) c.args.block.now) l) c.as_slice.ensures.value (c.are_stored.ensures none)) (c.may_be_part.ensures (search rules))
