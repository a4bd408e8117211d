use Rattle.std.proofs.Common.{List, ℕ, subst, sym}
use Rattle.subquery_filter.specs.Found.{HaveAll}
use Rattle.subquery_filter.proofs.MarkLemmas.{marked_ok}
use Rattle.subquery_filter.proofs.filter.Filter.new.Goals as goal

pub returns : goal.returns
returns g c =
    let types = g.N.Names.types c.args.names.now in
    let words = g.N.Names.words c.args.names.now in
    let lists = c.in_ok-lists.lists.items in
    let have = subst (λ (l : List (List ℕ)). HaveAll l words lists) c.needles.ensures c.in_ok-lists.ensures in
    let lent = subst (λ (l : List (List ℕ)). HaveAll c.in_ok-filter.filter.needles.items words l) (sym c.as_slice.ensures.value) have in
    marked_ok c.args.plan.now types words c.in_ok-marked.marked c.ask.result c.ask.ensures.filter (c.in_ok-marked.ensures c.args.plan.now types words (c.in_ok-filter.ensures types) lent)
