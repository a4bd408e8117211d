use Rattle.std.proofs.Common.{List, rules, subst}
use Rattle.std.specs.Prelude.{All}
use Rattle.subquery_filter.specs.declared.token.Token.{Token}
use Rattle.subquery_filter.specs.Filter.{IsNoCode}
use Rattle.subquery_filter.proofs.NeedLemmas.{open_words}
use Rattle.subquery_filter.proofs.filter.Filter.are_open.Goals as goal

pub returns-then-has : goal.returns-then-has
returns-then-has c = λ yes.
    open_words c.args.self.now c.args.words.now c.marks_of.result c.marks_of.ensures (c.has.ensures.yes (search rules))
    (subst (λ (l : List Token). All (λ k. All (IsNoCode k) c.args.words.now) l) c.as_slice.ensures.value (c.are_stored.ensures (search rules)))
